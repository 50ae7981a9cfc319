-- Two writes as one, and in the other order.
use Rattle.std.proofs.Common.{◌≡◌, ℕ, ◌<◌, true, length, Ok, Result, sym, ap, ◌∙◌, arith}
use Rattle.std.proofs.lemmas.Bool.{and_from, cond-true, lt-ltb}
use Rattle.bank.specs.Answers.{writing}
use Rattle.bank.specs.Devices.{Device}
use Rattle.bank.specs.JointWrites.{TwoBytes, both_there, joint_answer, wrote_byte, wrote_both}
use Rattle.bank.specs.declared.bank.PastEnd.{PastEnd}
use Rattle.bank.specs.declared.joint.ByteWrite.{ByteWrite}
use Rattle.bank.proofs.Writes.{length_wrote, wrote_comm}

writing_within : (d : Device) (o : ℕ) → o < length d.bytes → Ok tt ≡ writing d o
writing_within d o h = sym (cond-true _ _ _ (lt-ltb o (length d.bytes) h))

both_in : (m : ℕ → Device) (v w : ByteWrite) → v.offset < length (m v.device).bytes → w.offset < length (m w.device).bytes → both_there m v w ≡ true
both_in m v w h k = and_from _ _ (lt-ltb v.offset _ h) (lt-ltb w.offset _ k)

module _ (m m' end : ℕ → Device) (v w : ByteWrite) (h : v.offset < length (m v.device).bytes) (k : w.offset < length (m w.device).bytes) (one : m' ≡ wrote_byte m v) (two : end ≡ wrote_byte m' w) where
  pub both_answer : (r : Result (Unit {0}) PastEnd) → r ≡ writing (m' w.device) w.offset → r ≡ joint_answer m v w
  both_answer r e =
      let long : w.offset < length (m' w.device).bytes = rw one (omega (arith, length_wrote m v.device v.offset v.byte w.device)) in
      e ∙ sym (writing_within (m' w.device) w.offset long) ∙ sym (cond-true (both_there m v w) _ _ (both_in m v w h k))

  in_turn : end ≡ wrote_byte (wrote_byte m v) w
  in_turn = two ∙ ap (λ x. wrote_byte x w) one

  pub both_after : end ≡ wrote_both m v w
  both_after = in_turn ∙ sym (cond-true (both_there m v w) _ _ (both_in m v w h k))

  pub both_order : TwoBytes v w → end ≡ wrote_both m w v
  both_order apart =
      in_turn ∙ wrote_comm m v.device v.offset v.byte w.device w.offset w.byte apart ∙ sym (cond-true (both_there m w v) _ _ (both_in m w v k h))

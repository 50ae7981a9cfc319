-- What an accepted read gives.
use Rattle.std.proofs.Common.{◌≡◌, ℕ, zero, suc, ◌+◌, ◌<◌, Bool, true, false, List, length, get_or, is_some, Some, None, Option, sym, refl, ap, ◌∙◌, subst, arith}
use Rattle.std.proofs.lemmas.Option.{slice_get-get_or}
use Rattle.std.proofs.lemmas.Bool.{both_ways, not-false}
use Rattle.model.specs.declared.faults.Fault.{Fault}
use Rattle.model.specs.declared.places.Place.{Place}
use Rattle.tree.specs.Finds.{Finds}
use Rattle.tree.specs.Model.{Model}
use Rattle.tree.specs.Search.{search}
use Rattle.tree.specs.Sights.{Agrees}
use Rattle.edits.proofs.Sound.{Passed, passes}
use Rattle.access.specs.Accesses.{address_rows, byte_at, bytes_from}
use Rattle.machine.specs.Calls.{Devices, Call, read, given, Opening}
use Rattle.machine.specs.Refusals.{rows, refusal}
use Rattle.machine.specs.Machine.{answer_by, answer, after}
use Rattle.machine.specs.History.{ReadsAt, ReadBytes}
use Rattle.machine.specs.Contract.{RunsAgree}
use Rattle.machine.proofs.Written.{content_is}
use Rattle.machine.proofs.Backed.{Lengths, Inside, search_inside, first_lengths, stands_after}

-- The bytes, address by address.

length_bytes : (shows : ℕ → Option Place) (ds : Devices) (a n : ℕ) → length (bytes_from shows ds a n) ≡ n
unfolding bytes_from
length_bytes shows ds a zero = refl
length_bytes shows ds a (suc n) = ap suc (length_bytes shows ds (suc a) n)

byte_of : (shows : ℕ → Option Place) (ds : Devices) (a n i : ℕ) → i < n → get_or (bytes_from shows ds a n) i 0 ≡ byte_at ds (shows (a + i))
unfolding bytes_from
byte_of shows ds a zero i lt = absurd (omega arith)
byte_of shows ds a (suc n) zero lt = let e : a ≡ a + 0 = omega arith in ap (λ x. byte_at ds (shows x)) e
byte_of shows ds a (suc n) (suc i) lt = let e : suc a + i ≡ a + suc i = omega arith in byte_of shows ds (suc a) n i (omega arith) ∙ ap (λ x. byte_at ds (shows x)) e

-- where no row of an address applies, every address has a place
all_placed : (w : Bool) (shows : ℕ → Option Place) (a n : ℕ) → Passed (address_rows w shows a n) → (i : ℕ) → i < n → is_some (shows (a + i)) ≡ true
unfolding address_rows
all_placed w shows a zero ok i lt = absurd (omega arith)
all_placed w shows a (suc n) ok zero lt = let e : a ≡ a + 0 = omega arith in subst (λ x. is_some (shows x) ≡ true) e (not-false (is_some (shows a)) ok.0)
all_placed w shows a (suc n) ok (suc i) lt =
    let e : suc a + i ≡ a + suc i = omega arith in
    subst (λ x. is_some (shows x) ≡ true) e (all_placed w shows (suc a) n ok.1.1 i (omega arith))

-- where the function ends, there the rule leads
leads_by : (t : Model) (a : ℕ) (q : Option Place) → Agrees t → search t a ≡ q → Finds t 0 a false q
unfolding search
leads_by t a q agrees e = (agrees 9 0 a false q (omega arith)).1 e

read_at : (o : Opening) (cs : List Call) (address : ℕ) (q : Option Place) → Agrees (after o cs).committed → search (after o cs).committed address ≡ q → is_some q ≡ true → ReadsAt o cs address (byte_at (after o cs).devices q)
read_at o cs address None agrees e h = absurd (both_ways false refl h)
read_at o cs address (Some p) agrees e h =
    let len : Lengths = first_lengths o in
    let stands = stands_after o cs in
    let inside : p.offset < len p.device = subst (Inside len) e (search_inside len (after o cs).committed address stands.tree) in
    let same = stands.lengths p.device in
    record {
      place = p;
      leads = leads_by (after o cs).committed address (Some p) agrees e;
      holds = sym (content_is o cs p.device p.offset) ∙ slice_get-get_or ((after o cs).devices p.device).bytes p.offset 0 (omega arith);
    }

reads_by : (o : Opening) (cs : List Call) (a n : ℕ) (bytes : List ℕ) (q : Option Fault) → Agrees (after o cs).committed → refusal o (after o cs) (read a n) ≡ q → answer_by (after o cs) (read a n) q ≡ given bytes → ReadBytes o cs a n bytes
unfolding refusal rows
reads_by o cs a n bytes (Some f) agrees e is = absurd (let z : ◌≡◌ {A = ℕ} 0 1 = cc in omega arith)
reads_by o cs a n bytes None agrees e is =
    let m = after o cs in
    let all : bytes_from (search m.committed) m.devices a n ≡ bytes = cc in
    let P : List ℕ → Type 0 = ReadBytes o cs a n in
    subst P all (record {
      count = length_bytes (search m.committed) m.devices a n;
      each = λ i lt. subst (ReadsAt o cs (a + i)) (sym (byte_of (search m.committed) m.devices a n i lt))
          (read_at o cs (a + i) (search m.committed (a + i)) agrees refl (all_placed false (search m.committed) a n (passes (rows o m (read a n)) e).1 i lt));
    })

-- each byte of an accepted read is the first content, altered by the run's writes alone, where the rule of the
-- search leads in the committed tree
pub reads : (o : Opening) (cs : List Call) (a n : ℕ) (bytes : List ℕ) → RunsAgree o → answer o (after o cs) (read a n) ≡ given bytes → ReadBytes o cs a n bytes
unfolding answer
reads o cs a n bytes agree is = reads_by o cs a n bytes (refusal o (after o cs) (read a n)) (agree cs) refl is

-- The text of a list, line by line into a buffer.
use Rattle.std.proofs.Common.{◌≡◌, ℕ, ◌+◌, ◌-◌, ◌^◌, ◌<◌, ◌≤◌, Bool, true, false, List, [], ◌∷◌, ◌++◌, length, get_or, take, drop, Some, None, codes, Decides, Option, sym, refl, ap, ◌∙◌, append_assoc, arith}
use Rattle.std.specs.List.{AllByRecursion}
use Rattle.std.proofs.lemmas.List.{length-append, take_more, take-append-drop, take_at, drop_at, drop-drop}
use Rattle.std.proofs.lemmas.Bool.{cond-true, le-leb}
use Rattle.lexis.specs.Shown.{fits, past, placed}
use Rattle.lexis.proofs.Glyphs.{numeral_short}
use Rattle.model.specs.declared.kinds.Kind.{Kind}
use Rattle.model.specs.declared.kinds.Kind.TheVariants.{Ram, Rom, Reg}
use Rattle.model.specs.declared.changes.Change.{Change}
use Rattle.model.specs.Ranges.{Range}
use Rattle.model.specs.declared.changes.Action.{Action}
use Rattle.model.specs.declared.changes.Action.TheVariants as action
use Rattle.model.specs.Changes.{action_of, range_of}
use Rattle.changes.specs.Words.{action_text, kind_text, writes_text}
use Rattle.changes.specs.Lines.{hex, line, text_of, Writable}
use Rattle.changes.specs.Calls.{Fits}
use Rattle.changes.proofs.Tables.{text_push}

-- the parts of a line, with its words as they were found
abbrev pub spelled : List ℕ → Range → List ℕ → List ℕ → List ℕ
spelled s r k w =
    codes "(" ++ (s ++ (codes " (at " ++ (hex r.start ++ (codes ") (length " ++ (hex r.length ++ (codes ") (leaf " ++ (hex r.label.leaf
    ++ (codes " (device " ++ (hex r.label.device ++ (codes ") (offset " ++ (hex r.label.offset ++ (codes ")) (kind " ++ (k ++ (codes ") (writes " ++ (w ++ codes "))\n")))))))))))))))

pub spelled_line : (c : Change) (r : Range) (s k w : List ℕ) → r ≡ range_of c → s ≡ action_text (action_of c) → k ≡ kind_text r.label.kind → w ≡ writes_text r.label.writes → spelled s r k w ≡ line c
spelled_line c r s k w er es ek ew =
    λ i. spelled (es i) (er i) ((ek ∙ ap (λ q. kind_text q.label.kind) er) i) ((ew ∙ ap (λ q. writes_text q.label.writes) er) i)

action_short : (a : Action) → length (action_text a) ≤ 1
action_short action.Addition = omega arith
action_short action.Removal = omega arith

kind_short : (k : Kind) → length (kind_text k) ≤ 3
kind_short Ram = omega arith
kind_short Rom = omega arith
kind_short Reg = omega arith

writes_short : (b : Bool) → length (writes_text b) ≤ 3
writes_short true = omega arith
writes_short false = omega arith

-- the numbers of a range are of 64 bits
pub record Wide (r : Range) : Type 0 where
  pub start : r.start < 2 ^ 64
  pub length : r.length < 2 ^ 64
  pub leaf : r.label.leaf < 2 ^ 64
  pub device : r.label.device < 2 ^ 64
  pub offset : r.label.offset < 2 ^ 64

pub line_short : (c : Change) → Wide (range_of c) → length (line c) ≤ 256
line_short c h =
    let r = range_of c in
    let n : (m : ℕ) → m < 2 ^ 64 → length (hex m) ≤ 16 = λ m k. numeral_short 16 16 m (omega arith) (omega arith) k in
    simp length-append (omega (
      arith,
      n r.start h.start,
      n r.length h.length,
      n r.label.leaf h.leaf,
      n r.label.device h.device,
      n r.label.offset h.offset,
      action_short (action_of c),
      kind_short r.label.kind,
      writes_short r.label.writes,
    ))

text_append : (cs ds : List Change) → text_of (cs ++ ds) ≡ text_of cs ++ text_of ds
text_append [] ds = refl
text_append (c ∷ cs) ds = ap (λ l. line c ++ l) (text_append cs ds) ∙ sym (append_assoc (line c) (text_of cs) (text_of ds))

text_within : (cs : List Change) (i : ℕ) → length (text_of (take i cs)) ≤ length (text_of cs)
text_within cs i = omega (arith, ap length (ap text_of (sym (take-append-drop i cs)) ∙ text_append (take i cs) (drop i cs)) ∙ length-append (text_of (take i cs)) (text_of (drop i cs)))

unfit : (P : Type 0) → (P → ⊥) → Decides false P
unfit P h = ((λ e. absurd (let z : ◌≡◌ {A = ℕ} 0 1 = cc in omega arith)), λ p. absurd (h p))

-- the first i changes may be written, and their text of n bytes has room
pub record Passed (cs : List Change) (room i n : ℕ) : Type 0 where
  pub each : AllByRecursion Writable (take i cs)
  pub count : n ≡ length (text_of (take i cs))
  pub short : n ≤ room

-- the texts of the first i changes stand at the front of a buffer that was es and is bs
pub record Standing (cs : List Change) (es : List ℕ) (i at : ℕ) (bs : List ℕ) : Type 0 where
  pub count : at ≡ length (text_of (take i cs))
  pub table : bs ≡ text_of (take i cs) ++ drop at es

module _ (cs : List Change) (i : ℕ) (d : Change) (below : i < length cs) where
  text_more : text_of (take (i + 1) cs) ≡ text_of (take i cs) ++ line (get_or cs i d)
  text_more = ap text_of (take_more cs i d below) ∙ text_push (take i cs) (get_or cs i d)

  grown : (k : ℕ) → k ≡ length (line (get_or cs i d)) → length (text_of (take (i + 1) cs)) ≡ length (text_of (take i cs)) + k
  grown k e = ap length text_more ∙ length-append (text_of (take i cs)) (line (get_or cs i d)) ∙ ap (λ m. length (text_of (take i cs)) + m) (sym e)

  module _ (room n k : ℕ) (passed : Passed cs room i n) (is : k ≡ length (line (get_or cs i d))) where
    pub too_long : room - n < k → Decides false (Fits cs room)
    too_long h = unfit (Fits cs room) (λ f. omega (arith, grown k is, text_within cs (i + 1), f.short, passed.count, passed.short))

  module _ (es bs l : List ℕ) (at : ℕ) (whole : Fits cs (length es)) (kept : length bs ≡ length es) (is : l ≡ line (get_or cs i d)) (so_far : Standing cs es i at bs) where
    ends : at + length l ≡ length (text_of (take (i + 1) cs))
    ends = omega (arith, grown (length l) (ap length is), so_far.count)

    room : fits l at bs ≡ true
    room = le-leb (at + length l) (length bs) (omega (arith, ends, text_within cs (i + 1), whole.short))

    pub never_out : (o : Option ℕ) → o ≡ past l at bs → o ≡ None → ⊥
    never_out o e f =
        let s : past l at bs ≡ Some (at + length l) = cond-true (fits l at bs) _ _ room in
        let z : ◌≡◌ {A = ℕ} 0 1 = cc in
        omega arith

    pub one_on : (o : Option ℕ) (k : ℕ) (ys : List ℕ) → o ≡ past l at bs → o ≡ Some k → ys ≡ placed l at bs → Standing cs es (i + 1) k ys
    one_on o k ys e f g =
        let s : past l at bs ≡ Some (at + length l) = cond-true (fits l at bs) _ _ room in
        let n : k ≡ at + length l = cc in
        let front : take at bs ≡ text_of (take i cs) = ap (take at) so_far.table ∙ take_at (text_of (take i cs)) (drop at es) at (sym so_far.count) in
        let back : drop (at + length l) bs ≡ drop k es =
        sym (drop-drop (length l) at bs) ∙ ap (drop (length l)) (ap (drop at) so_far.table ∙ drop_at (text_of (take i cs)) (drop at es) at (sym so_far.count)) ∙ drop-drop (length l) at es ∙ ap (λ m. drop m es) (sym n) in
        record {
          count = n ∙ ends;
          table = g ∙ cond-true (fits l at bs) _ _ room ∙ (λ j. front j ++ (is j ++ back j)) ∙ sym (append_assoc (text_of (take i cs)) (line (get_or cs i d)) (drop k es)) ∙ ap (λ t. t ++ drop k es) (sym text_more);
        }

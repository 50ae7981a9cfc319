-- What the calls answer, from what their passes found.
use Rattle.std.proofs.Common.{◌≡◌, ℕ, ◌<◌, ◌≤◌, List, ◌++◌, length, take, drop, Some, None, Option, sym, refl, ap, ◌∙◌, subst, arith}
use Rattle.std.proofs.lemmas.List.{take_at}
use Rattle.model.specs.declared.changes.Change.{Change}
use Rattle.changes.specs.Lines.{text_of, Spells}
use Rattle.changes.specs.Shapes.{Counted, Stored}
use Rattle.changes.specs.Calls.{Written, Read, RoundTrip}
use Rattle.changes.proofs.Tables.{spells_same}

module _ (bytes : List ℕ) (old : List Change) (n : ℕ) (found : Counted bytes n) where
  only : (ds : List Change) → Spells bytes ds → ds ≡ found.0
  only ds s = spells_same bytes found.0 ds found.1 s

  pub read_short : length old < n → Read bytes old old None
  read_short h = ((λ ds s short. omega (arith, ap length (only ds s), found.2)), refl)

  pub read_some : (new : List Change) → n ≤ length old → Stored bytes old new → Read bytes old new (Some n)
  read_some new h stored =
      let short : length found.0 ≤ length old = omega (arith, found.2) in (
        found.0,
        record { spelt = found.1; only = only; short = short },
        record { count = sym found.2; table = stored found.0 found.1 short ∙ ap (λ k. found.0 ++ drop k old) found.2 },
      )

spelt : (cs : List Change) (old new : List ℕ) (n : ℕ) → Written cs old new (Some n) → Spells (take n new) cs
spelt cs old new n w =
    (ap (take n) w.1.table ∙ take_at (text_of cs) (drop n old) n (sym w.1.count), w.0.each)

-- a reading that has room answers, and its list is the one that has the text
read_as : (bytes : List ℕ) (cs old new : List Change) (r : Option ℕ) → Spells bytes cs → length cs ≤ length old → Read bytes old new r → (r ≡ Some (length cs)) × (new ≡ cs ++ drop (length cs) old)
read_as bytes cs old new (Some n) s short h =
    let e : cs ≡ h.0 = h.1.only cs s in
    let k : n ≡ length cs = h.2.count ∙ ap length (sym e) in
    (ap Some k, h.2.table ∙ (λ i. sym e i ++ drop (k i) old))
read_as bytes cs old new None s short h = absurd (h.0 cs s short)

read_text : (bytes : List ℕ) (old new : List Change) (n : ℕ) → Read bytes old new (Some n) → Spells bytes (take n new)
read_text bytes old new n h = subst (Spells bytes) (sym (ap (take n) h.2.table ∙ take_at h.0 (drop n old) n (sym h.2.count))) h.1.spelt

pub round_trip : RoundTrip
round_trip =
    record {
      back = λ cs buffer buffer' n records records' r w h short. read_as (take n buffer') cs records records' r (spelt cs buffer buffer' n w) short h;
      no_other = read_text;
      apart = λ cs ds a b e. spells_same (text_of cs) ds cs (e, b) (refl, a);
    }

-- The sameness of places says yes just if they are equal.
use Rattle.std.specs.Prelude.{◌≡◌, Bool, Decides}
use Rattle.std.proofs.Common.{ap, rules}
use Rattle.std.proofs.lemmas.Bool.Decides.{Decides-and, Decides-eqb, Decides-like}
use Rattle.model.specs.declared.kinds.Kind.{Kind}
use Rattle.model.specs.declared.places.Place.{Place}
use Rattle.model.specs.Kinds.{same_kind}
use Rattle.model.specs.Places.{same_bool, same_place}

kinds : (a b : Kind) → Decides (same_kind a b) (a ≡ b)
kinds a b = search rules

bools : (a b : Bool) → Decides (same_bool a b) (a ≡ b)
bools a b = search rules

pub places : (p q : Place) → Decides (same_place p q) (p ≡ q)
places p q =
    Decides-like (same_place p q)
    (λ h. λ i. record { leaf = h.0 i; device = h.1.0 i; offset = h.1.1.0 i; kind = h.1.1.1.0 i; writes = h.1.1.1.1 i })
    (λ e. (ap (λ x. x.leaf) e, (ap (λ x. x.device) e, (ap (λ x. x.offset) e, (ap (λ x. x.kind) e, ap (λ x. x.writes) e)))))
    (Decides-and _ _ (Decides-eqb _ _) (Decides-and _ _ (Decides-eqb _ _) (Decides-and _ _ (Decides-eqb _ _) (Decides-and _ _ (kinds _ _) (bools _ _)))))

-- Writing the entries of some ranges over the front of a list.
use Rattle.std.proofs.Common.{◌≡◌, ℕ, ◌+◌, ◌<◌, ◌≤◌, List, [], ◌∷◌, ◌++◌, map, length, get_or, take, drop, set, sym, ap, ◌∙◌, inl, inr, append_assoc, arith}
use Rattle.std.proofs.lemmas.Bool.{cases_lt}
use Rattle.std.proofs.lemmas.List.{drop_all, drop_more, set_at, length-map, length-take-le, map_push, take_more}

-- one entry more
pub written_more : {X Y : Type 0} (f : X → Y) (xs : List X) (ys : List Y) (n : ℕ) (d : X) → n < length xs → n < length ys → set (map f (take n xs) ++ drop n ys) n (f (get_or xs n d)) ≡ map f (take (n + 1) xs) ++ drop (n + 1) ys
written_more f xs ys n d left room =
    let x = get_or xs n d in
    let front = map f (take n xs) in
    let long : length front ≡ n = length-map (take n xs) f ∙ length-take-le n xs (omega arith) in
    ap (λ l. set (front ++ l) n (f x)) (drop_more ys n (f x) room)
    ∙ set_at front _ (drop (n + 1) ys) (f x) n long
    ∙ sym (append_assoc front (f x ∷ []) (drop (n + 1) ys))
    ∙ ap (λ l. l ++ drop (n + 1) ys) (sym (map_push f (take n xs) x) ∙ ap (map f) (sym (take_more xs n d left)))

-- what is left of a list from a place on, by its head
pub drop_head : {X : Type 0} (n : ℕ) (xs : List X) (x : X) (rest : List X) → drop n xs ≡ x ∷ rest → (n < length xs) × (get_or xs n x ≡ x) × (drop (n + 1) xs ≡ rest)
drop_head n xs x rest h = elim (cases_lt n (length xs)) [
  | inl lt ↦ (let e = sym (drop_more xs n x lt) ∙ h in (lt, cc, cc))
  | inr ge ↦ absurd (let e = sym h ∙ drop_all n xs ge in let z : ◌≡◌ {A = ℕ} 0 1 = cc in omega arith)
]

pub drop_none : {X : Type 0} (n : ℕ) (xs : List X) → n ≤ length xs → drop n xs ≡ [] → n ≡ length xs
drop_none n [] within h = omega arith
drop_none n (x ∷ xs) within h = elim (cases_lt n (length (x ∷ xs))) [
  | inl lt ↦ absurd (let e = sym (drop_more (x ∷ xs) n x lt) ∙ h in let z : ◌≡◌ {A = ℕ} 0 1 = cc in omega arith)
  | inr ge ↦ omega arith
]

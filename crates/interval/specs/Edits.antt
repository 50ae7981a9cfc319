-- What put, cut, paint and join make of a rising list of stretches.
use Rattle.std.specs.Prelude.{ℕ, ◌+◌, ◌-◌, Bool, true, cond, ◌&&◌, ◌||◌, ltb, leb, List, [], ◌∷◌, ◌++◌, Some, None, Option, ◌==◌, nat_le, nat_lt}
use Rattle.std.specs.Option.{option_to_list}
use Rattle.std.specs.List.{prefix_len}
use Rattle.interval.specs.declared.stretches.Stretch.{Stretch}
use Rattle.interval.specs.Stretches.{stop, holds}

-- the stretch holds no address from `a` up to `e`
abbrev pub apart : {L : Type 0} → ℕ → ℕ → Stretch L → Bool
apart a e s = nat_le (stop s) a || nat_le e s.start

-- no stretch holds an address from `a` up to `e`
abbrev pub free : {L : Type 0} → ℕ → ℕ → List (Stretch L) → Bool
free a e [] = true
free a e (s ∷ xs) = apart a e s && free a e xs

-- how many of the first stretches end at or before the address; how many start before it
abbrev pub ended : {L : Type 0} → ℕ → List (Stretch L) → ℕ
ended a xs = prefix_len (λ s. leb (stop s) a) xs

abbrev pub started : {L : Type 0} → ℕ → List (Stretch L) → ℕ
started e xs = prefix_len (λ s. ltb s.start e) xs

-- the list with one stretch more, in its place by start
abbrev pub put : {L : Type 0} → List (Stretch L) → Stretch L → List (Stretch L)
put [] s = s ∷ []
put (x ∷ xs) s = cond (nat_lt x.start s.start) (x ∷ put xs s) (s ∷ x ∷ xs)

-- what a stretch has before the address `a`
abbrev pub left : {L : Type 0} → ℕ → Stretch L → Option (Stretch L)
left a s = cond (nat_lt s.start a) (Some (record { start = s.start; length = a - s.start; label = s.label })) None

-- what it has from the address `e` on, if it holds `e`, with the label advanced
abbrev pub right : {L : Type 0} → (L → ℕ → L) → ℕ → Stretch L → Option (Stretch L)
right advanced e s = cond (holds s e) (Some (record { start = e; length = stop s - e; label = advanced s.label (e - s.start) })) None

-- of stretches that stand together: what the first has before `a`, and what the last has from `e` on
abbrev pub first_left : {L : Type 0} → ℕ → List (Stretch L) → Option (Stretch L)
first_left a [] = None
first_left a (s ∷ xs) = left a s

abbrev pub last_right : {L : Type 0} → (L → ℕ → L) → ℕ → List (Stretch L) → Option (Stretch L)
last_right advanced e [] = None
last_right advanced e (s ∷ []) = right advanced e s
last_right advanced e (s ∷ t ∷ xs) = last_right advanced e (t ∷ xs)

-- what is left of a stretch where the addresses from `a` up to `e` are taken out
abbrev pub remains : {L : Type 0} → (L → ℕ → L) → ℕ → ℕ → Stretch L → List (Stretch L)
remains advanced a e s = cond (apart a e s) (s ∷ []) (option_to_list (left a s) ++ option_to_list (right advanced e s))

-- what is left of all stretches
abbrev pub cut : {L : Type 0} → (L → ℕ → L) → ℕ → ℕ → List (Stretch L) → List (Stretch L)
cut advanced a e [] = []
cut advanced a e (s ∷ xs) = remains advanced a e s ++ cut advanced a e xs

-- the addresses of a stretch cut out, and the stretch put there
abbrev pub paint : {L : Type 0} → (L → ℕ → L) → List (Stretch L) → Stretch L → List (Stretch L)
paint advanced xs s = put (cut advanced s.start (stop s) xs) s

-- `y` begins where `x` ends, with the label that `x` has come to
abbrev pub runs_on : {L : Type 0} → (L → ℕ → L) → (L → L → Bool) → Stretch L → Stretch L → Bool
runs_on advanced same x y = stop x == y.start && same (advanced x.label x.length) y.label

-- one stretch in the place of two that touch
abbrev pub merged : {L : Type 0} → Stretch L → Stretch L → Stretch L
merged x y = record { start = x.start; length = x.length + y.length; label = x.label }

-- the stretch x, with as many of the following as run on, and then the rest joined
abbrev pub join_from : {L : Type 0} → (L → ℕ → L) → (L → L → Bool) → Stretch L → List (Stretch L) → List (Stretch L)
join_from advanced same x [] = x ∷ []
join_from advanced same x (y ∷ ys) = cond (runs_on advanced same x y) (join_from advanced same (merged x y) ys) (x ∷ join_from advanced same y ys)

-- touching stretches that run on made one
abbrev pub join : {L : Type 0} → (L → ℕ → L) → (L → L → Bool) → List (Stretch L) → List (Stretch L)
join advanced same [] = []
join advanced same (x ∷ xs) = join_from advanced same x xs

-- What stands at an address after an edit.
use Rattle.std.proofs.Common.{◌≡◌, ℕ, ◌+◌, ◌-◌, ◌<◌, ◌≤◌, max, Bool, true, false, cond, ◌&&◌, eqb, ltb, leb, ◌⊎◌, List, [], ◌∷◌, ◌++◌, Some, None, Decides, Option, sym, refl, ap, ◌∙◌, inl, inr, append_assoc, arith}
use Rattle.std.proofs.lemmas.Bool.{true≢false, and_parts, and_from, and_left, and_right, or_parts, leb-true, leb-false, ltb-true, eqb-true, le-leb, lt-leb, lt-ltb, le-ltb, cond-true, cond-false, cond_both, cases_lt, cases_Bool}
use Rattle.std.proofs.lemmas.Bool.Decides.{nat_tests}
use Rattle.std.proofs.lemmas.Option.{none-some}
use Rattle.std.specs.Option.{option_map, option_to_list}
use Rattle.interval.specs.declared.stretches.Stretch.{Stretch}
use Rattle.interval.specs.Stretches.{rising, stop, holds, found, at}
use Rattle.interval.specs.Edits.{apart, free, left, right, remains, cut, put, paint, runs_on, merged, join_from, join}
use Rattle.interval.proofs.Spans.{rises}

module _ {L : Type 0} (adv : L → ℕ → L) (a : ℕ) where
  -- the label that a stretch has at the address
  abbrev here : Stretch L → Option L
  here x = Some (adv x.label (a - x.start))

  pub at_yes : (x : Stretch L) (xs : List (Stretch L)) → holds x a ≡ true → at adv (x ∷ xs) a ≡ here x
  at_yes x xs h = ap (option_map (λ s. adv s.label (a - s.start))) (cond-true (holds x a) (Some x) (found xs a) h)

  pub at_not : (x : Stretch L) (xs : List (Stretch L)) → holds x a ≡ false → at adv (x ∷ xs) a ≡ at adv xs a
  at_not x xs h = ap (option_map (λ s. adv s.label (a - s.start))) (cond-false (holds x a) (Some x) (found xs a) h)

  pub at_cons : (x : Stretch L) (xs : List (Stretch L)) → at adv (x ∷ xs) a ≡ cond (holds x a) (here x) (at adv xs a)
  at_cons x xs = elim (cases_Bool (holds x a)) [
    | inl h ↦ at_yes x xs h ∙ sym (cond-true _ _ _ h)
    | inr h ↦ at_not x xs h ∙ sym (cond-false _ _ _ h)
  ]

  -- a piece that does not hold the address
  abbrev Misses : Option (Stretch L) → Type 0
  Misses None = Unit {0}
  Misses (Some s) = holds s a ≡ false

  skip : (o : Option (Stretch L)) (ys : List (Stretch L)) → Misses o → at adv (option_to_list o ++ ys) a ≡ at adv ys a
  skip None ys m = refl
  skip (Some s) ys m = at_not s ys m

  pub at_put : (s : Stretch L) (xs : List (Stretch L)) → free s.start (stop s) xs ≡ true → at adv (put xs s) a ≡ cond (holds s a) (here s) (at adv xs a)
  at_put s [] f = at_cons s []
  at_put s (x ∷ xs) f =
      let q = and_parts (apart s.start (stop s) x) _ f in
      let ih = at_put s xs q.1 in
      elim (cases_Bool (ltb x.start s.start)) [
        | inl earlier ↦ ap (λ z. at adv z a) (cond-true _ _ _ earlier) ∙ at_cons x (put xs s) ∙ ap (λ z. cond (holds x a) (here x) z) ih
            ∙ elim (cases_Bool (holds x a)) [
              | inl h ↦ (let k : holds s a ≡ false = grind (arith, nat_tests) in cond-true _ _ _ h ∙ sym (cond-false _ _ _ k ∙ at_yes x xs h))
              | inr h ↦ cond-false _ _ _ h ∙ ap (cond (holds s a) (here s)) (sym (at_not x xs h))
            ]
        | inr later ↦ ap (λ z. at adv z a) (cond-false _ _ _ later) ∙ at_cons s (x ∷ xs)
      ]

  -- nothing stands at an address that is free
  pub at_free : (s : Stretch L) (xs : List (Stretch L)) → free s.start (stop s) xs ≡ true → holds s a ≡ true → at adv xs a ≡ None
  at_free s [] f h = refl
  at_free s (x ∷ xs) f h =
      let q = and_parts (apart s.start (stop s) x) _ f in
      let k : holds x a ≡ false = grind (arith, nat_tests) in
      at_not x xs k ∙ at_free s xs q.1 h

  at_some : (x : Stretch L) (xs : List (Stretch L)) → holds x a ≡ true → at adv (x ∷ xs) a ≡ None → ⊥
  at_some x xs h none = none-some _ (sym none ∙ at_yes x xs h)

  module _ (c e : ℕ) (forward : c < e) where
    two : (x : Stretch L) (xs : List (Stretch L)) → apart c e x ≡ false → at adv (cut adv c e (x ∷ xs)) a ≡ at adv (option_to_list (left c x) ++ (option_to_list (right adv e x) ++ cut adv c e xs)) a
    two x xs m = ap (λ z. at adv (z ++ cut adv c e xs) a) (cond-false _ _ _ m) ∙ ap (λ z. at adv z a) (append_assoc (option_to_list (left c x)) (option_to_list (right adv e x)) (cut adv c e xs))

    one : (x : Stretch L) (xs : List (Stretch L)) → apart c e x ≡ true → at adv (cut adv c e (x ∷ xs)) a ≡ at adv (x ∷ cut adv c e xs) a
    one x xs m = ap (λ z. at adv (z ++ cut adv c e xs) a) (cond-true _ _ _ m)

    left_misses : (x : Stretch L) → c ≤ a → Misses (left c x)
    left_misses x h = cond_both (ltb x.start c) _ _ Misses (λ t. grind (arith, nat_tests)) (λ _. tt)

    right_misses : (x : Stretch L) → a < e → Misses (right adv e x)
    right_misses x h = cond_both (holds x e) _ _ Misses (λ t. and_left (leb e a) _ (lt-leb _ _ h)) (λ _. tt)

    left_not : (x : Stretch L) → holds x a ≡ false → c < stop x → Misses (left c x)
    left_not x h k = cond_both (ltb x.start c) _ _ Misses (λ t. grind (arith, nat_tests)) (λ _. tt)

    right_not : (x : Stretch L) → holds x a ≡ false → Misses (right adv e x)
    right_not x h = cond_both (holds x e) _ _ Misses (λ t. grind (arith, nat_tests)) (λ _. tt)

    gone : (xs : List (Stretch L)) → c ≤ a → a < e → at adv (cut adv c e xs) a ≡ None
    gone [] h k = refl
    gone (x ∷ xs) h k =
        let ih = gone xs h k in
        elim (cases_Bool (apart c e x)) [
          | inl m ↦ (let n : holds x a ≡ false = grind (arith, nat_tests) in one x xs m ∙ at_not x (cut adv c e xs) n ∙ ih)
          | inr m ↦ two x xs m ∙ skip (left c x) _ (left_misses x h) ∙ skip (right adv e x) _ (right_misses x k) ∙ ih
        ]

    module _ (sum : (x : L) (i j : ℕ) → adv (adv x i) j ≡ adv x (i + j)) where
      held : (x : Stretch L) (xs : List (Stretch L)) → c < stop x → x.start < e → holds x a ≡ true → (a < c) ⊎ (e ≤ a)
          → at adv (option_to_list (left c x) ++ (option_to_list (right adv e x) ++ cut adv c e xs)) a ≡ at adv (x ∷ xs) a
      held x xs over before y (inl below) =
          let rest = option_to_list (right adv e x) ++ cut adv c e xs in
          let p = and_parts (leb x.start a) _ y in
          let low = leb-true _ _ p.0 in
          let piece : Stretch L = record { start = x.start; length = c - x.start; label = x.label } in
          let is : left c x ≡ Some piece = cond-true (ltb x.start c) _ _ (lt-ltb x.start c (omega arith)) in
          ap (λ o. at adv (option_to_list o ++ rest) a) is ∙ at_yes piece rest (and_from _ _ (le-leb _ _ low) (lt-ltb a (stop piece) (omega arith))) ∙ sym (at_yes x xs y)
      held x xs over before y (inr past) =
          let p = and_parts (leb x.start a) _ y in
          let high = ltb-true _ _ p.1 in
          let piece : Stretch L = record { start = e; length = stop x - e; label = adv x.label (e - x.start) } in
          let is : right adv e x ≡ Some piece = cond-true (holds x e) _ _ (and_from _ _ (le-leb x.start e (omega arith)) (lt-ltb e (stop x) (omega arith))) in
          let far : (e - x.start) + (a - e) ≡ a - x.start = omega arith in
          skip (left c x) _ (left_misses x (omega arith)) ∙ ap (λ o. at adv (option_to_list o ++ cut adv c e xs) a) is
          ∙ at_yes piece (cut adv c e xs) (and_from _ _ (le-leb _ _ past) (lt-ltb a (stop piece) (omega arith)))
          ∙ ap Some (sum x.label (e - x.start) (a - e) ∙ ap (adv x.label) far) ∙ sym (at_yes x xs y)

      kept : (xs : List (Stretch L)) → (a < c) ⊎ (e ≤ a) → at adv (cut adv c e xs) a ≡ at adv xs a
      kept [] h = refl
      kept (x ∷ xs) h =
          let ih = kept xs h in
          elim (cases_Bool (apart c e x)) [
            | inl m ↦ one x xs m ∙ at_cons x (cut adv c e xs) ∙ ap (cond (holds x a) (here x)) ih ∙ sym (at_cons x xs)
            | inr m ↦ (let q = or_parts (leb (stop x) c) _ m in
                let over : c < stop x = leb-false _ _ q.0 in
                let before : x.start < e = leb-false _ _ q.1 in
                two x xs m ∙ elim (cases_Bool (holds x a)) [
                  | inl y ↦ held x xs over before y h
                  | inr n ↦ skip (left c x) _ (left_not x n over) ∙ skip (right adv e x) _ (right_not x n) ∙ ih ∙ sym (at_not x xs n)
                ])
          ]

      pub at_cut : (xs : List (Stretch L)) → at adv (cut adv c e xs) a ≡ cond (leb c a && ltb a e) None (at adv xs a)
      at_cut xs =
          elim (cases_lt a c) [
            | inl below ↦ kept xs (inl below) ∙ sym (cond-false _ _ _ (and_left (leb c a) _ (lt-leb _ _ below)))
            | inr from ↦ elim (cases_lt a e) [
              | inl under ↦ gone xs from under ∙ sym (cond-true _ _ _ (and_from _ _ (le-leb _ _ from) (lt-ltb _ _ under)))
              | inr past ↦ kept xs (inr past) ∙ sym (cond-false _ _ _ (and_right (leb c a) _ (le-ltb _ _ past)))
            ]
          ]

    free_append : (xs ys : List (Stretch L)) → free c e xs ≡ true → free c e ys ≡ true → free c e (xs ++ ys) ≡ true
    free_append [] ys f g = g
    free_append (x ∷ xs) ys f g = let q = and_parts (apart c e x) _ f in and_from _ _ q.0 (free_append xs ys q.1 g)

    pub free_cut : (xs : List (Stretch L)) → free c e (cut adv c e xs) ≡ true
    free_cut [] = refl
    free_cut (x ∷ xs) =
        let F : List (Stretch L) → Type 0 = λ ys. free c e ys ≡ true in
        let G : Option (Stretch L) → Type 0 = λ o. free c e (option_to_list o) ≡ true in
        let l : G (left c x) = cond_both (ltb x.start c) _ _ G (λ t. grind (arith, nat_tests)) (λ _. refl) in
        let r : G (right adv e x) = cond_both (holds x e) _ _ G (λ t. grind (arith, nat_tests)) (λ _. refl) in
        free_append (remains adv c e x) (cut adv c e xs)
        (cond_both (apart c e x) _ _ F (λ t. and_from _ _ t refl) (λ _. free_append (option_to_list (left c x)) (option_to_list (right adv e x)) l r)) (free_cut xs)

  twice : {X : Type 0} (b : Bool) (x y z : X) → cond b x (cond b y z) ≡ cond b x z
  twice true x y z = refl
  twice false x y z = refl

  module _ (sum : (x : L) (i j : ℕ) → adv (adv x i) j ≡ adv x (i + j)) where
    pub at_paint : (xs : List (Stretch L)) (s : Stretch L) → 0 < s.length → at adv (paint adv xs s) a ≡ cond (holds s a) (here s) (at adv xs a)
    at_paint xs s h =
        at_put s (cut adv s.start (stop s) xs) (free_cut s.start (stop s) (omega arith) xs)
        ∙ ap (cond (holds s a) (here s)) (at_cut s.start (stop s) (omega arith) sum xs) ∙ twice (holds s a) (here s) None (at adv xs a)

    module _ (same : L → L → Bool) (exact : (x y : L) → Decides (same x y) (x ≡ y)) where
      -- where y goes on with what x has come to, one stretch stands for both
      pub at_merged : (x y : Stretch L) (ys : List (Stretch L)) → runs_on adv same x y ≡ true → at adv (merged x y ∷ ys) a ≡ at adv (x ∷ y ∷ ys) a
      at_merged x y ys t =
          let p = and_parts (eqb (stop x) y.start) _ t in
          let touch = eqb-true _ _ p.0 in
          let label : adv x.label x.length ≡ y.label = (exact _ _).0 p.1 in
          elim (cases_Bool (holds x a)) [
            | inl h ↦ (let k : holds (merged x y) a ≡ true = grind (arith, nat_tests) in at_yes (merged x y) ys k ∙ sym (at_yes x (y ∷ ys) h))
            | inr h ↦ elim (cases_Bool (holds y a)) [
              | inl k ↦ (let m : holds (merged x y) a ≡ true = grind (arith, nat_tests) in
                  let far : x.length + (a - y.start) ≡ a - x.start = grind (arith, nat_tests) in
                  at_yes (merged x y) ys m ∙ sym (at_not x (y ∷ ys) h ∙ at_yes y ys k ∙ ap Some (ap (λ z. adv z (a - y.start)) (sym label) ∙ sum x.label x.length (a - y.start) ∙ ap (adv x.label) far)))
              | inr k ↦ (let m : holds (merged x y) a ≡ false = grind (arith, nat_tests) in at_not (merged x y) ys m ∙ sym (at_not x (y ∷ ys) h ∙ at_not y ys k))
            ]
          ]

      at_join_from : (ys : List (Stretch L)) (x : Stretch L) → at adv (join_from adv same x ys) a ≡ at adv (x ∷ ys) a
      at_join_from [] x = refl
      at_join_from (y ∷ ys) x =
          elim (cases_Bool (runs_on adv same x y)) [
            | inl t ↦ ap (λ z. at adv z a) (cond-true _ _ _ t) ∙ at_join_from ys (merged x y) ∙ at_merged x y ys t
            | inr f ↦ ap (λ z. at adv z a) (cond-false _ _ _ f) ∙ at_cons x (join_from adv same y ys) ∙ ap (cond (holds x a) (here x)) (at_join_from ys y) ∙ sym (at_cons x (y ∷ ys))
          ]

      pub at_join : (xs : List (Stretch L)) → at adv (join adv same xs) a ≡ at adv xs a
      at_join [] = refl
      at_join (x ∷ xs) = at_join_from xs x

-- where a stretch is not free, something stands at one of its addresses
pub at_taken : {L : Type 0} (adv : L → ℕ → L) (s : Stretch L) (low : ℕ) (xs : List (Stretch L)) → 0 < s.length → rising low xs ≡ true → free s.start (stop s) xs ≡ false
    → (a : ℕ) × (holds s a ≡ true) × (at adv xs a ≡ None → ⊥)
at_taken adv s low [] some r f = absurd (true≢false f)
at_taken adv s low (x ∷ xs) some r f =
    let p = rises low x xs r in
    elim (cases_Bool (apart s.start (stop s) x)) [
      | inl away ↦ (let q = at_taken adv s (stop x) xs some p.rest (sym (ap (λ b. b && free s.start (stop s) xs) away) ∙ f) in (
        q.0,
        q.1,
        λ none. elim (cases_Bool (holds x q.0)) [
          | inl h ↦ at_some adv q.0 x xs h none
          | inr h ↦ q.2 (sym (at_not adv q.0 x xs h) ∙ none)
        ],
      ))
      | inr meets ↦ (let m = max s.start x.start in
          let own : holds s m ≡ true = grind (arith, nat_tests) in
          let held : holds x m ≡ true = grind (arith, nat_tests) in
          (m, own, at_some adv m x xs held))
    ]

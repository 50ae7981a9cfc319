-- The steps of a reader's items.
use Rattle.std.proofs.Common.{◌≡◌, ℕ, ◌+◌, ◌≤◌, ◌<◌, List, length, drop, Ok, Err, Some, None, Option, sym, refl, ap, ◌∙◌, subst, arith}
use Rattle.std.proofs.lemmas.List.{length-append, length-drop}
use Rattle.lexis.specs.declared.lost.Lost.{Lost as Failed}
use Rattle.lexis.specs.declared.reader.Reader.{Reader}
use Rattle.lexis.specs.Lang.{Got, Lost, Step, Literal, agree}
use Rattle.lexis.proofs.Picks.{agree_right, literal_got, literal_lost}
use Rattle.lexis.specs.Moving.{Moves, rest_of, column_of, lost_of, reach}

module _ {A : Type 0} (L : List ℕ → A → Type 0) where
  step_fresh : (o : Option Failed) (x y : List ℕ) (a : A) → Step L o x (Ok a) y → o ≡ None
  step_fresh None x y a h = refl
  step_fresh (Some e) x y a h = absurd (let f : ◌≡◌ {A = ℕ} 0 1 = cc in omega arith)

  -- a reader that went over a word was not lost
  pub fresh : (s t : Reader) (a : A) → Moves L s (Ok a) t → lost_of s ≡ None
  fresh s t a m = step_fresh (lost_of s) (rest_of s) (rest_of t) a m.step

  pub went : (s t : Reader) (a : A) → Moves L s (Ok a) t → Got L (rest_of s) a (rest_of t)
  went s t a m = subst (λ o. Step L o (rest_of s) (Ok a) (rest_of t)) (fresh s t a m) m.step

  pub stuck : (s t : Reader) (e : Failed) → lost_of s ≡ None → Moves L s (Err e) t → Lost L (rest_of s) (rest_of t)
  stuck s t e f m = subst (λ o. Step L o (rest_of s) (Err e) (rest_of t)) f m.step

  -- and back
  pub goes : (s t : Reader) (a : A) → lost_of s ≡ None → lost_of t ≡ None → reach t ≡ reach s → Got L (rest_of s) a (rest_of t) → Moves L s (Ok a) t
  goes s t a f l r g = record { step = subst (λ o. Step L o (rest_of s) (Ok a) (rest_of t)) (sym f) g; lost = l; reached = r; failed = tt }

  pub fails : (s t : Reader) (e : Failed) → lost_of s ≡ None → lost_of t ≡ Some e → reach t ≡ reach s → e.column ≡ column_of t → Lost L (rest_of s) (rest_of t) → Moves L s (Err e) t
  fails s t e f l r c g = record { step = subst (λ o. Step L o (rest_of s) (Err e) (rest_of t)) (sym f) g; lost = l; reached = r; failed = c }

  -- what a reader that went over a word tells of the bytes x that it had
  pub read_got : (s t : Reader) (a : A) (x : List ℕ) → rest_of s ≡ x → Moves L s (Ok a) t → Got L x a (rest_of t)
  read_got s t a x had moves = subst (λ l. Got L l a (rest_of t)) had (went s t a moves)

  -- and one that failed
  pub read_lost : (s t : Reader) (e : Failed) (x : List ℕ) → rest_of s ≡ x → lost_of s ≡ None → Moves L s (Err e) t → (l : Lost L x (rest_of t)) × (column_of t ≡ column_of s + length l.front)
  read_lost s t e x had f moves =
      let l = subst (λ r. Lost L r (rest_of t)) had (stuck s t e f moves) in
      (l, omega (arith, moves.reached, ap length had, ap length l.split ∙ length-append l.front (rest_of t)))

-- a reader that has gone on by the bytes that a text and the line have in common
module _ (x : List ℕ) (s t : Reader) (n : ℕ) (f : lost_of s ≡ None) (e : n ≡ agree x (rest_of s)) (rest : rest_of t ≡ drop n (rest_of s)) (column : column_of t ≡ column_of s + n) where
  reached : reach t ≡ reach s
  reached = omega (arith, ap length rest ∙ length-drop n (rest_of s), agree_right x (rest_of s))

  pub literal_goes : lost_of t ≡ None → length x ≤ n → Moves (Literal x) s (Ok tt) t
  literal_goes l h = goes (Literal x) s t tt f l reached (subst (Got (Literal x) (rest_of s) tt) (sym rest) (literal_got x (rest_of s) n e h))

  pub literal_fails : (d : Failed) → lost_of t ≡ Some d → d.column ≡ column_of t → n < length x → Moves (Literal x) s (Err d) t
  literal_fails d l c h = fails (Literal x) s t d f l reached c (subst (Lost (Literal x) (rest_of s)) (sym rest) (literal_lost x (rest_of s) n e h))

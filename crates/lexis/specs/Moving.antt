-- What a reader holds, and what one item does to it.
use Rattle.std.specs.Prelude.{◌≡◌, ℕ, ◌+◌, ◌-◌, ◌≤◌, List, length, drop, Ok, Err, Result, Some, None, Option, IfErr}
use Rattle.std.specs.Result.{result_err}
use Rattle.std.specs.Borrow.{Bor}
use Rattle.lexis.specs.declared.lost.Lost.{Lost as Failed}
use Rattle.lexis.specs.declared.reader.Reader.{Reader}
use Rattle.lexis.specs.Lang.{Step}

-- what is left of the line
abbrev pub rest_of : Reader → List ℕ
rest_of s = s.rest.now

-- the column of the first byte that is left
abbrev pub column_of : Reader → ℕ
column_of s = s.column

-- why the line has failed, if it has
abbrev pub lost_of : Reader → Option Failed
lost_of s = s.lost

-- the column past the end of the line
abbrev pub reach : Reader → ℕ
reach s = column_of s + length (rest_of s)

-- from s to t the reader goes over a word of L that writes the value, or is lost at t, where the line begins none; a lost one stays
pub record Moves {A : Type 0} (L : List ℕ → A → Type 0) (s : Reader) (r : Result A Failed) (t : Reader) : Type 0 where
  pub step : Step L (lost_of s) (rest_of s) r (rest_of t)
  pub lost : lost_of t ≡ result_err r
  pub reached : reach t ≡ reach s
  pub failed : IfErr r (λ e. e.column ≡ column_of t)

-- a reading leaves some end of what s has, or fails in it
abbrev pub Within : {A : Type 0} → Reader → Result (A × Bor (List ℕ)) Failed → Type 0
Within s (Ok p) = length p.1.now ≤ length (rest_of s)
Within s (Err e) = (column_of s ≤ e.column) × (e.column ≤ reach s)

-- from s the reader goes on to what a reading leaves, or is lost where it fails
abbrev pub Follows : {A : Type 0} → Reader → Result (A × Bor (List ℕ)) Failed → Result A Failed → Reader → Type 0
Follows s (Ok p) r t = (r ≡ Ok p.0) × (rest_of t ≡ drop (length (rest_of s) - length p.1.now) (rest_of s)) × (reach t ≡ reach s) × (lost_of t ≡ None)
Follows s (Err e) r t = (r ≡ Err e) × (rest_of t ≡ drop (e.column - column_of s) (rest_of s)) × (reach t ≡ reach s) × (lost_of t ≡ Some e)

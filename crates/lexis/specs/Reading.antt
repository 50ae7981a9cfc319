-- What reading at the front of a line answers.
use Rattle.std.specs.Prelude.{ℕ, ◌+◌, ◌-◌, ◌≤◌, List, length, drop, Ok, Err, Result}
use Rattle.std.specs.Borrow.{Bor}
use Rattle.lexis.specs.declared.lost.Lost.{Lost as Failed}
use Rattle.lexis.specs.Lang.{Got, Lost}

-- the value and the rest, or the column of the byte by which the line x, whose first byte is at column col, begins no word
abbrev pub Reading : {A : Type 0} → (List ℕ → A → Type 0) → List ℕ → ℕ → Result (A × Bor (List ℕ)) Failed → Type 0
Reading L x col (Ok p) = Got L x p.0 p.1.now
Reading L x col (Err e) = (col ≤ e.column) × (e.column ≤ col + length x) × Lost L x (drop (e.column - col) x)

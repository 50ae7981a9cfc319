-- Small trees, and what stands at some of their addresses.
use Rattle.std.specs.Prelude.{◌≡◌, ℕ, true, cond, List, [], ◌∷◌, ℤ, pos, negsuc, Some, None, Option, ◌==◌, slice_set}
use Rattle.std.specs.List.{AllByRecursion}
use Rattle.model.specs.declared.kinds.Kind.TheVariants.{Ram}
use Rattle.model.specs.declared.places.Place.{Place}
use Rattle.tree.specs.declared.regions.Body.{Body}
use Rattle.tree.specs.declared.regions.Body.TheVariants.{Container, Leaf, Alias}
use Rattle.tree.specs.declared.regions.Attachment.{Attachment}
use Rattle.tree.specs.Model.{Model, fresh, root_alone}
use Rattle.tree.specs.Order.{inserted}
use Rattle.tree.specs.Search.{search}

-- Steps from one tree to the next.

abbrev pub made : ℕ → Body → ℕ → Model → Model
made n b size t = record { regions = slice_set t.regions n (Some (fresh b size)); attachments = t.attachments }

abbrev pub attached : (child parent offset : ℕ) (priority : ℤ) → Model → Model
attached c p o i t = record { regions = t.regions; attachments = inserted (record { child = c; parent = p; offset = o; priority = i }) t.attachments }

-- without the first attachment of the child n
abbrev pub without : ℕ → List Attachment → List Attachment
without n [] = []
without n (c ∷ cs) = cond (c.child == n) cs (c ∷ without n cs)

abbrev pub detached : ℕ → Model → Model
detached n t = record { regions = t.regions; attachments = without n t.attachments }

-- the leaf n, of 0x1000 bytes, shows device n, which is ram
abbrev pub leaf : ℕ → Model → Model
leaf n = made n (Leaf n Ram) 0x1000

-- The trees.

-- the root alone
abbrev pub w1 : Model
w1 = root_alone 0x10000

-- leaf 1 at 0x2000
abbrev pub w2 : Model
w2 = attached 1 0 0x2000 (pos 0) (leaf 1 w1)

-- then leaf 2 at 0x2800
abbrev pub w3 : Model
w3 = attached 2 0 0x2800 (pos 0) (leaf 2 w2)

-- then leaf 1 moved to where it is: it leads its equals
abbrev pub w4 : Model
w4 = attached 1 0 0x2000 (pos 0) (detached 1 w3)

-- leaf 2 has the highest priority, but in a container whose own is below that of leaf 1
abbrev pub w5 : Model
w5 = attached 1 0 0x2000 (pos 0) (attached 3 0 0x2000 (negsuc 0) (attached 2 3 0 (pos 100) (made 3 Container 0x1000 (leaf 2 (leaf 1 w1)))))

-- leaf 1 goes past the end of the root
abbrev pub w6 : Model
w6 = attached 1 0 0xf800 (pos 0) (leaf 1 w1)

-- an alias of 0x800 bytes goes past the end of leaf 1, which is attached to nothing
abbrev pub w7 : Model
w7 = attached 2 0 0x8000 (pos 0) (made 2 (Alias 1 0xc00) 0x800 (leaf 1 w1))

-- two aliases show the two halves of leaf 1, side by side
abbrev pub w8 : Model
w8 = attached 3 0 0x8800 (pos 0) (made 3 (Alias 1 0x800) 0x800 (attached 2 0 0x8000 (pos 0) (made 2 (Alias 1 0) 0x800 (leaf 1 w1))))

-- What is expected, on both sides of every edge.

-- an offset of the leaf n
abbrev pub at : ℕ → ℕ → Option Place
at n offset = Some (record { leaf = n; device = n; offset = offset; kind = Ram; writes = true })

pub record Window : Type 0 where
  pub tree : Model
  pub expected : List (ℕ × Option Place)

abbrev pub windows : List Window
windows =
    record { tree = w1; expected = (0, None) ∷ (0xffff, None) ∷ (0x10000, None) ∷ [] }
    ∷ record { tree = w2; expected = (0x1fff, None) ∷ (0x2000, at 1 0) ∷ (0x2fff, at 1 0xfff) ∷ (0x3000, None) ∷ [] }
    ∷ record { tree = w3; expected = (0x1fff, None) ∷ (0x2000, at 1 0) ∷ (0x27ff, at 1 0x7ff) ∷ (0x2800, at 2 0) ∷ (0x37ff, at 2 0xfff) ∷ (0x3800, None) ∷ [] }
    ∷ record { tree = w4; expected = (0x1fff, None) ∷ (0x2000, at 1 0) ∷ (0x2800, at 1 0x800) ∷ (0x2fff, at 1 0xfff) ∷ (0x3000, at 2 0x800) ∷ (0x37ff, at 2 0xfff) ∷ (0x3800, None) ∷ [] }
    ∷ record { tree = w5; expected = (0x1fff, None) ∷ (0x2000, at 1 0) ∷ (0x2fff, at 1 0xfff) ∷ (0x3000, None) ∷ [] }
    ∷ record { tree = w6; expected = (0xf7ff, None) ∷ (0xf800, at 1 0) ∷ (0xffff, at 1 0x7ff) ∷ (0x10000, None) ∷ [] }
    ∷ record { tree = w7; expected = (0x7fff, None) ∷ (0x8000, at 1 0xc00) ∷ (0x83ff, at 1 0xfff) ∷ (0x8400, None) ∷ [] }
    ∷ record { tree = w8; expected = (0x7fff, None) ∷ (0x8000, at 1 0) ∷ (0x87ff, at 1 0x7ff) ∷ (0x8800, at 1 0x800) ∷ (0x8fff, at 1 0xfff) ∷ (0x9000, None) ∷ [] }
    ∷ []

-- in every window the search finds what is expected
abbrev pub WindowsShow : Type 0
WindowsShow = AllByRecursion (λ w. AllByRecursion (λ e. search w.tree e.0 ≡ e.1) w.expected) windows

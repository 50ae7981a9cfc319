-- What a listener makes of a change list: it hears, in the list's order, the entries of the kinds that it takes.
use Rattle.std.specs.Prelude.{◌≡◌, ◌≤◌, Bool, true, cond, not, ◌&&◌, ◌||◌, List, [], ◌∷◌, length}
use Rattle.model.specs.declared.changes.Change.{Change}
use Rattle.model.specs.declared.changes.Change.TheVariants.{Removal, Addition}
use Rattle.model.specs.Ranges.{Range, listed}
use Rattle.listener.specs.Hearing.{Hearing, with_held, admits, added, removed}
use Rattle.model.specs.Changes.{range_of}
use Rattle.diff.specs.Laws.{of_kinds, ToldByKind}

-- the entry is of a kind that is taken
abbrev pub concerns : Hearing → Change → Bool
concerns h c = h.kinds (range_of c).label.kind

abbrev pub heard : Hearing → Change → Hearing
heard h (Removal r) = removed h r
heard h (Addition r) = added h r

abbrev pub told_one : Hearing → Change → Hearing
told_one h c = cond (concerns h c) (heard h c) h

-- the entries in turn
abbrev pub told_all : Hearing → List Change → Hearing
told_all h [] = h
told_all h (c ∷ cs) = told_all (told_one h c) cs

-- the listener does not refuse the entry
abbrev pub welcome : Hearing → Change → Bool
welcome h (Removal r) = listed h.held r
welcome h (Addition r) = admits h r

-- no entry that it hears is refused when its turn comes
abbrev pub all_welcome : Hearing → List Change → Bool
all_welcome h [] = true
all_welcome h (c ∷ cs) = (not (concerns h c) || welcome h c) && all_welcome (told_one h c) cs

-- it holds the ranges of its kinds of the new map, and refused no entry on the way
pub record Follows (h later : Hearing) (list : List Change) (new : List Range) : Type 0 where
  pub holds : later ≡ with_held h (of_kinds h.kinds new)
  pub refuses : all_welcome h list ≡ true

-- so it is with every list that leads, kind by kind, from an old map to a new one, if the listener held the
-- ranges of its kinds of the old map and has room for those of the new one
abbrev pub FollowsMaps : Hearing → Hearing → List Change → Type 0
FollowsMaps h later list = (old new : List Range) → ToldByKind old new list → h.held ≡ of_kinds h.kinds old → length (of_kinds h.kinds new) ≤ h.capacity → Follows h later list new

-- A choice of kinds, and a listener that is narrowed to it.
use Rattle.std.specs.Prelude.{Bool, cond, ◌&&◌}
use Rattle.model.specs.declared.kinds.Kind.{Kind}
use Rattle.model.specs.declared.kinds.Kind.TheVariants.{Ram, Rom, Reg}
use Rattle.model.specs.Ranges.{Range}
use Rattle.listener.specs.declared.kind_filter.Kinds.{Kinds}
use Rattle.listener.specs.Hearing.{Hearing, added}

abbrev pub chosen : Kinds → Kind → Bool
chosen c Ram = c.ram
chosen c Rom = c.rom
chosen c Reg = c.reg

-- a kind is taken if both take it; else as the listener below
abbrev pub narrowed : Kinds → Hearing → Hearing
narrowed c h = record { held = h.held; kinds = λ k. chosen c k && h.kinds k; capacity = h.capacity }

-- the listener below, after an addition through the filter
abbrev pub added_through : Kinds → Hearing → Range → Hearing
added_through c h r = cond (chosen c r.label.kind) (added h r) h

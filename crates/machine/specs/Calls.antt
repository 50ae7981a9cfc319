-- What is asked of a space, and what it answers.
use Rattle.std.specs.Prelude.{ℕ, Bool, List, Option}
use Rattle.model.specs.declared.changes.Change.{Change}
use Rattle.model.specs.declared.faults.Fault.{Fault}
use Rattle.model.specs.declared.kinds.Kind.{Kind}
use Rattle.bank.specs.Devices.{Device}
use Rattle.tree.specs.Model.{Model}
use Rattle.edits.specs.declared.edit.Edit.{Edit}
use Rattle.diff.specs.declared.counts.Counts.{Counts}

-- all devices of a bank, by their numbers
abbrev pub Devices : Type 0
Devices = ℕ → Device

-- a commit is lent a list with room for so many changes; a read has a buffer of `count` bytes; a question
-- alters nothing, whatever it asks
pub data Call : Type 0 where
  begin : Call
  edit : Edit → Call
  commit : (room : ℕ) → Call
  drop_draft : Call
  read : (address count : ℕ) → Call
  write : (address : ℕ) (bytes : List ℕ) → Call
  question : Call
  clear_log : Call

-- a fault; or of a commit its changes and both counts, of a read its bytes, and else nothing
pub data Answer : Type 0 where
  refused : Fault → Answer
  changed : (list : List Change) (counts : Counts) → Answer
  given : (bytes : List ℕ) → Answer
  done : Answer

-- an opening: the size of the root, the kinds that the listener takes, its capacity, and the devices of the
-- bank with their first content
pub record Opening : Type 0 where
  pub size : ℕ
  pub kinds : Kind → Bool
  pub capacity : ℕ
  pub devices : Devices

-- where the machine stands
pub record Machine : Type 0 where
  pub committed : Model
  pub draft : Option Model
  pub devices : Devices

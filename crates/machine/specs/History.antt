-- What the bytes of the devices are after a run: the first content, altered by the accepted writes alone.
use Rattle.std.specs.Prelude.{◌≡◌, ℕ, suc, ◌+◌, ◌<◌, false, cond, ◌&&◌, List, [], ◌∷◌, ◌++◌, length, Some, None, Option, ◌==◌, slice_index}
use Rattle.std.specs.List.{slice_get}
use Rattle.std.specs.Option.{option_map}
use Rattle.model.specs.declared.places.Place.{Place}
use Rattle.bank.specs.Devices.{masked}
use Rattle.tree.specs.Finds.{Finds}
use Rattle.tree.specs.Model.{Model}
use Rattle.tree.specs.Search.{search}
use Rattle.machine.specs.Calls.{Call, begin, edit, commit, drop_draft, read, write, question, clear_log, Answer, refused, changed, given, done, Opening, Machine}
use Rattle.machine.specs.Machine.{answer, next, after, opened}

-- a byte that is written to a device
pub record ByteWrite : Type 0 where
  pub device : ℕ
  pub offset : ℕ
  pub byte : ℕ

abbrev pub to_place : Option Place → ℕ → List ByteWrite
to_place None b = []
to_place (Some p) b = record { device = p.device; offset = p.offset; byte = b } ∷ []

-- the bytes go to the places to which the tree t leads, rising from address a on
unfoldable pub byte_writes : Model → ℕ → List ℕ → List ByteWrite
byte_writes t a [] = []
byte_writes t a (b ∷ bs) = to_place (search t a) b ++ byte_writes t (suc a) bs

-- the byte writes that a call asks for, if the tree t is committed
abbrev pub writes_of : Model → Call → List ByteWrite
writes_of t begin = []
writes_of t (edit e) = []
writes_of t (commit room) = []
writes_of t drop_draft = []
writes_of t (read a n) = []
writes_of t (write a bs) = byte_writes t a bs
writes_of t question = []
writes_of t clear_log = []

-- a refused call writes nothing
abbrev pub if_accepted : Answer → List ByteWrite → List ByteWrite
if_accepted (refused f) ws = []
if_accepted (changed list counts) ws = ws
if_accepted (given bytes) ws = ws
if_accepted done ws = ws

-- the byte writes of a run from m on, in their order, each at the place to which the tree that was committed
-- at its time led
abbrev pub run_writes : Opening → Machine → List Call → List ByteWrite
run_writes o m [] = []
run_writes o m (c ∷ cs) = if_accepted (answer o m c) (writes_of m.committed c) ++ run_writes o (next o m c) cs

abbrev pub history : Opening → List Call → List ByteWrite
history o cs = run_writes o (opened o) cs

-- what a byte write makes of the byte at offset i of device n, whose mask is k; there may be no such byte
abbrev pub touched : ℕ → ℕ → ℕ → ByteWrite → Option ℕ → Option ℕ
touched n i k w v = cond (w.device == n && w.offset == i) (option_map (λ u. masked u k w.byte) v) v

abbrev pub all_touched : ℕ → ℕ → ℕ → List ByteWrite → Option ℕ → Option ℕ
all_touched n i k [] v = v
all_touched n i k (w ∷ ws) v = all_touched n i k ws (touched n i k w v)

-- the first content at offset i of device n, altered by the byte writes of the run alone
abbrev pub content : Opening → List Call → ℕ → ℕ → Option ℕ
content o cs n i = all_touched n i (slice_index (o.devices n).masks i) (history o cs) (slice_get (o.devices n).bytes i)

-- the byte that an accepted read gives for an address: by the rule of the search, the committed tree leads from
-- the address to the place, and there the byte stands
pub record ReadsAt (o : Opening) (cs : List Call) (address byte : ℕ) : Type 0 where
  pub place : Place
  pub leads : Finds (after o cs).committed 0 address false (Some place)
  pub holds : content o cs place.device place.offset ≡ Some byte

-- the bytes of an accepted read of n addresses from a on
pub record ReadBytes (o : Opening) (cs : List Call) (a n : ℕ) (bytes : List ℕ) : Type 0 where
  pub count : length bytes ≡ n
  pub each : (i : ℕ) → i < n → ReadsAt o cs (a + i) (slice_index bytes i)

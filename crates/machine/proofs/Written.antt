-- What the devices hold after a run: the first content, altered by the run's writes.
use Rattle.std.proofs.Common.{◌≡◌, ℕ, zero, suc, ◌&&◌, eqb, List, [], ◌∷◌, ◌++◌, get_or, set, Some, None, Option, sym, refl, ap, ◌∙◌, subst, ⊎_elim}
use Rattle.std.specs.List.{slice_get}
use Rattle.std.specs.Option.{option_map}
use Rattle.std.proofs.lemmas.Bool.{cond-true, cond-false, cond_both, cases_eq, eq-eqb, ne_eqb, and_from, and_left, and_right}
use Rattle.model.specs.declared.faults.Fault.{Fault}
use Rattle.model.specs.declared.places.Place.{Place}
use Rattle.bank.specs.Alterations.{ShapeKept}
use Rattle.bank.specs.Devices.{Device, masked, put, wrote}
use Rattle.bank.proofs.Writes.{wrote_alters}
use Rattle.tree.specs.Model.{Model}
use Rattle.tree.specs.Search.{search}
use Rattle.access.specs.Accesses.{put_at, stored_from}
use Rattle.machine.specs.Calls.{Devices, Call, begin, edit, commit, drop_draft, read, write, question, clear_log, Opening, Machine}
use Rattle.machine.specs.Refusals.{refusal}
use Rattle.machine.specs.Machine.{opened, with_draft, ends_draft, refused_next, answer_by, next_by, answer, next, run, after}
use Rattle.machine.specs.History.{ByteWrite, to_place, byte_writes, writes_of, if_accepted, run_writes, touched, all_touched, content}

-- One byte written.

nth_set_same : {X : Type 0} (xs : List X) (i : ℕ) (v : X) → slice_get (set xs i v) i ≡ option_map (λ _. v) (slice_get xs i)
nth_set_same [] i v = refl
nth_set_same (x ∷ xs) zero v = refl
nth_set_same (x ∷ xs) (suc i) v = nth_set_same xs i v

masked_there : (xs : List ℕ) (i k b : ℕ) → option_map (λ _. masked (get_or xs i 0) k b) (slice_get xs i) ≡ option_map (λ u. masked u k b) (slice_get xs i)
masked_there [] i k b = refl
masked_there (x ∷ xs) zero k b = refl
masked_there (x ∷ xs) (suc i) k b = masked_there xs i k b

put_same : (d : Device) (i b : ℕ) → slice_get (put d i b).bytes i ≡ option_map (λ u. masked u (get_or d.masks i 0) b) (slice_get d.bytes i)
put_same d i b = nth_set_same d.bytes i _ ∙ masked_there d.bytes i (get_or d.masks i 0) b

module _ (ds : Devices) (d off b n i : ℕ) where
  wrote_same : d ≡ n → off ≡ i → slice_get (wrote ds d off b n).bytes i ≡ option_map (λ u. masked u (get_or (ds n).masks i 0) b) (slice_get (ds n).bytes i)
  wrote_same e f =
      ap (λ x. slice_get x.bytes i) (cond-true (eqb n d) (put (ds n) off b) (ds n) (eq-eqb n d (sym e)))
      ∙ ap (λ j. slice_get (put (ds n) j b).bytes i) f
      ∙ put_same (ds n) i b

  wrote_byte : slice_get (wrote ds d off b n).bytes i ≡ touched n i (get_or (ds n).masks i 0) (record { device = d; offset = off; byte = b }) (slice_get (ds n).bytes i)
  wrote_byte =
      let v = slice_get (ds n).bytes i in
      let new = option_map (λ u. masked u (get_or (ds n).masks i 0) b) v in
      let other = (wrote_alters ds d off b).elsewhere n i in
      ⊎_elim
      (λ e. ⊎_elim
      (λ f. wrote_same e f ∙ sym (cond-true (eqb d n && eqb off i) new v (and_from _ _ (eq-eqb d n e) (eq-eqb off i f))))
      (λ f. other (λ _ g. f g) ∙ sym (cond-false (eqb d n && eqb off i) new v (and_right (eqb d n) _ (ne_eqb off i f))))
      (cases_eq off i))
      (λ e. other (λ g _. e g) ∙ sym (cond-false (eqb d n && eqb off i) new v (and_left (eqb d n) (eqb off i) (ne_eqb d n e))))
      (cases_eq d n)

-- No write changes a kind, a length or a mask.

shape_same : (ds : Devices) → ShapeKept ds ds
shape_same ds = record { kinds = λ n. refl; lengths = λ n. refl; masks = λ n. refl }

shape_on : (ds es fs : Devices) → ShapeKept ds es → ShapeKept es fs → ShapeKept ds fs
shape_on ds es fs h k = record { kinds = λ n. k.kinds n ∙ h.kinds n; lengths = λ n. k.lengths n ∙ h.lengths n; masks = λ n. k.masks n ∙ h.masks n }

shape_put : (ds : Devices) (q : Option Place) (b : ℕ) → ShapeKept ds (put_at ds q b)
shape_put ds None b = shape_same ds
shape_put ds (Some p) b = (wrote_alters ds p.device p.offset b).shape

pub shape_stored : (shows : ℕ → Option Place) (ds : Devices) (a : ℕ) (bs : List ℕ) → ShapeKept ds (stored_from shows ds a bs)
unfolding stored_from
shape_stored shows ds a [] = shape_same ds
shape_stored shows ds a (b ∷ bs) = shape_on _ _ _ (shape_put ds (shows a) b) (shape_stored shows (put_at ds (shows a) b) (suc a) bs)

-- Bytes written in turn.

-- from ds to es, byte i of device n is altered by the byte writes ws alone
abbrev Touches : ℕ → ℕ → List ByteWrite → Devices → Devices → Type 0
Touches n i ws ds es = slice_get (es n).bytes i ≡ all_touched n i (get_or (ds n).masks i 0) ws (slice_get (ds n).bytes i)

touched_append : (n i k : ℕ) (ws vs : List ByteWrite) (v : Option ℕ) → all_touched n i k (ws ++ vs) v ≡ all_touched n i k vs (all_touched n i k ws v)
touched_append n i k [] vs v = refl
touched_append n i k (w ∷ ws) vs v = touched_append n i k ws vs (touched n i k w v)

put_byte : (ds : Devices) (q : Option Place) (b n i : ℕ) → Touches n i (to_place q b) ds (put_at ds q b)
put_byte ds None b n i = refl
put_byte ds (Some p) b n i = wrote_byte ds p.device p.offset b n i

touches_on : (ds es fs : Devices) (ws vs : List ByteWrite) (n i : ℕ) → (es n).masks ≡ (ds n).masks → Touches n i ws ds es → Touches n i vs es fs → Touches n i (ws ++ vs) ds fs
touches_on ds es fs ws vs n i same first second =
    second
    ∙ ap (λ ms. all_touched n i (get_or ms i 0) vs (slice_get (es n).bytes i)) same
    ∙ ap (all_touched n i (get_or (ds n).masks i 0) vs) first
    ∙ sym (touched_append n i (get_or (ds n).masks i 0) ws vs (slice_get (ds n).bytes i))

stored_byte : (t : Model) (ds : Devices) (a : ℕ) (bs : List ℕ) (n i : ℕ) → Touches n i (byte_writes t a bs) ds (stored_from (search t) ds a bs)
unfolding stored_from byte_writes
stored_byte t ds a [] n i = refl
stored_byte t ds a (b ∷ bs) n i =
    touches_on ds (put_at ds (search t a) b) (stored_from (search t) (put_at ds (search t a) b) (suc a) bs) (to_place (search t a) b) (byte_writes t (suc a) bs) n i
    ((shape_put ds (search t a) b).masks n)
    (put_byte ds (search t a) b n i)
    (stored_byte t (put_at ds (search t a) b) (suc a) bs n i)

-- A step, and a run.

refused_devices : (m : Machine) (f : Fault) → (refused_next m f).devices ≡ m.devices
refused_devices m f = cond_both (ends_draft f) (with_draft m None) m (λ x. x.devices ≡ m.devices) (λ _. refl) (λ _. refl)

shape_by : (m : Machine) (c : Call) (q : Option Fault) → ShapeKept m.devices (next_by m c q).devices
shape_by m c (Some f) = subst (ShapeKept m.devices) (sym (refused_devices m f)) (shape_same m.devices)
shape_by m begin None = shape_same m.devices
shape_by m (edit e) None = shape_same m.devices
shape_by m (commit room) None = shape_same m.devices
shape_by m drop_draft None = shape_same m.devices
shape_by m (read a n) None = shape_same m.devices
shape_by m (write a bs) None = shape_stored (search m.committed) m.devices a bs
shape_by m question None = shape_same m.devices
shape_by m clear_log None = shape_same m.devices

byte_by : (m : Machine) (c : Call) (q : Option Fault) (n i : ℕ) → Touches n i (if_accepted (answer_by m c q) (writes_of m.committed c)) m.devices (next_by m c q).devices
byte_by m c (Some f) n i = ap (λ (ds : Devices). slice_get (ds n).bytes i) (refused_devices m f)
byte_by m begin None n i = refl
byte_by m (edit e) None n i = refl
byte_by m (commit room) None n i = refl
byte_by m drop_draft None n i = refl
byte_by m (read a k) None n i = refl
byte_by m (write a bs) None n i = stored_byte m.committed m.devices a bs n i
byte_by m question None n i = refl
byte_by m clear_log None n i = refl

module _ (o : Opening) where
  pub shape_step : (m : Machine) (c : Call) → ShapeKept m.devices (next o m c).devices
  unfolding next
  shape_step m c = shape_by m c (refusal o m c)

  byte_step : (m : Machine) (c : Call) (n i : ℕ) → Touches n i (if_accepted (answer o m c) (writes_of m.committed c)) m.devices (next o m c).devices
  unfolding answer next
  byte_step m c n i = byte_by m c (refusal o m c) n i

  byte_run : (m : Machine) (cs : List Call) (n i : ℕ) → Touches n i (run_writes o m cs) m.devices (run o m cs).devices
  byte_run m [] n i = refl
  byte_run m (c ∷ cs) n i =
      touches_on m.devices (next o m c).devices (run o (next o m c) cs).devices (if_accepted (answer o m c) (writes_of m.committed c)) (run_writes o (next o m c) cs) n i
      ((shape_step m c).masks n)
      (byte_step m c n i)
      (byte_run (next o m c) cs n i)

  pub content_is : (cs : List Call) (n i : ℕ) → slice_get ((after o cs).devices n).bytes i ≡ content o cs n i
  content_is cs n i = byte_run (opened o) cs n i

-- A change line, item by item.
use Rattle.std.proofs.Common.{◌≡◌, ℕ, ◌^◌, Bool, true, List, codes, refl, sym, ◌∙◌, subst, arith}
use Rattle.std.specs.List.{flat_map}
use Rattle.lexis.specs.declared.reader.Reader.{Reader}
use Rattle.lexis.specs.declared.tokens.Divider.{Divider}
use Rattle.lexis.specs.declared.tokens.Divider.TheVariants.{Close, Space}
use Rattle.lexis.specs.Lang.{Then, After, Literal, Chosen}
use Rattle.lexis.specs.Numeral.{Number}
use Rattle.lexis.proofs.Joins.{Free, Some}
use Rattle.lexis.proofs.Words.{number_free}
use Rattle.lexis.proofs.Picks.{literal_free, chosen_free}
use Rattle.lexis.proofs.Chains.{Past, moves_like, fails_like, then_free, after_free, free_like, word_choice, word_number, text_choice, text_number}
use Rattle.model.specs.declared.changes.Action.{Action}
use Rattle.model.specs.declared.changes.Action.TheVariants as action
use Rattle.model.specs.declared.changes.Change.{Change}
use Rattle.model.specs.declared.changes.Change.TheVariants.{Removal, Addition}
use Rattle.model.specs.declared.kinds.Kind.{Kind}
use Rattle.model.specs.declared.kinds.Kind.TheVariants as kind
use Rattle.model.specs.Ranges.{Range}
use Rattle.model.specs.Changes.{entry, action_of, range_of}
use Rattle.changes.specs.declared.words.Word.{Word}
use Rattle.changes.specs.Words.{spelt, worded, action_text, kind_text, writes_text}
use Rattle.changes.specs.Lines.{pieces, line}
use Rattle.changes.specs.Shapes.{Fitting, Shaped, Lined}
use Rattle.changes.specs.WordSets.{action_set, kind_set, writes_set}

abbrev pub Value : Type 0
Value = Word Action × (ℕ × (ℕ × (ℕ × (ℕ × (ℕ × (Word Kind × (Word Bool × Unit {0})))))))

-- what follows the numbers
abbrev pub Tail : List ℕ → Word Kind × (Word Bool × Unit {0}) → Type 0
Tail = Then (After (codes ") (kind ") (Chosen (spelt kind_text))) (Then (After (codes ") (writes ") (Chosen (spelt writes_text))) (Literal (codes "))\n")))

abbrev pub Items : List ℕ → Value → Type 0
Items =
    Then (After (codes "(") (Chosen (spelt action_text)))
    (Then (After (codes " (at ") (Number 16 (2 ^ 40) Close))
    (Then (After (codes " (length ") (Number 16 (2 ^ 40) Close))
    (Then (After (codes " (leaf ") (Number 16 0x3f Space))
    (Then (After (codes "(device ") (Number 16 0xffff Close))
    (Then (After (codes " (offset ") (Number 16 (2 ^ 40) Close)) Tail)))))

abbrev pub value : Action → Range → Value
value a r = (worded a, (r.start, (r.length, (r.label.leaf, (r.label.device, (r.label.offset, (worded r.label.kind, (worded r.label.writes, tt))))))))

abbrev pub range : Value → Range
range v =
    let a = v.1 in
    let b = a.1 in
    let c = b.1 in
    let d = c.1 in
    let e = d.1 in
    let f = e.1 in
    record {
      start = a.0;
      length = b.0;
      label = record { leaf = c.0; device = d.0; offset = e.0; kind = f.0.0; writes = f.1.0.0 };
    }

abbrev pub made : Value → Change
made v = entry v.0.0 (range v)

entry_line : (a : Action) (r : Range) → flat_map (λ w. w) (pieces a r) ≡ line (entry a r)
entry_line action.Addition r = refl
entry_line action.Removal r = refl

entry_range : (a : Action) (r : Range) → r ≡ range_of (entry a r)
entry_range action.Addition r = refl
entry_range action.Removal r = refl

entry_parts : (c : Change) → entry (action_of c) (range_of c) ≡ c
entry_parts (Addition r) = refl
entry_parts (Removal r) = refl

items_text : (w : List ℕ) (v : Value) → Items w v → Shaped w (made v)
items_text w v i =
    let a = i.second in
    let b = a.second in
    let c = b.second in
    let d = c.second in
    let e = d.second in
    let f = e.second in
    let g = f.second in (
      text_choice (spelt action_text) _ _ i
          (text_number _ _ a (text_number _ _ b (text_number _ _ c (text_number _ _ d (text_number _ _ e
          (text_choice (spelt kind_text) _ _ f (text_choice (spelt writes_text) _ _ g g.second)))))))
          ∙ entry_line v.0.0 (range v),
      subst Fitting (entry_range v.0.0 (range v))
          (record { start = a.first.word.small; length = b.first.word.small; leaf = c.first.word.small; device = d.first.word.small; offset = e.first.word.small }),
    )

text_items : (a : Action) (r : Range) → Fitting r → Items (flat_map (λ w. w) (pieces a r)) (value a r)
text_items a r h =
    word_choice (spelt action_text) (codes "(") _ (worded a)
    (word_number (codes " (at ") _ Close r.start h.start (word_number (codes " (length ") _ Close r.length h.length
    (word_number (codes " (leaf ") _ Space r.label.leaf h.leaf (word_number (codes "(device ") _ Close r.label.device h.device (word_number (codes " (offset ") _ Close r.label.offset h.offset
    (word_choice (spelt kind_text) (codes ") (kind ") _ (worded r.label.kind) (word_choice (spelt writes_text) (codes ") (writes ") _ (worded r.label.writes) refl)))))))

shaped_items : (w : List ℕ) (c : Change) → Shaped w c → (v : Value) × Items w v × (made v ≡ c)
shaped_items w c h =
    (value (action_of c) (range_of c), subst (λ l. Items l (value (action_of c) (range_of c))) (sym h.0) (text_items (action_of c) (range_of c) h.1), entry_parts c)

some_items : Some Items
some_items =
    let r : Range = record { start = 0; length = 0; label = record { leaf = 0; device = 0; offset = 0; kind = kind.Ram; writes = true } } in
    record { value = value action.Removal r; text = flat_map (λ w. w) (pieces action.Removal r); word = text_items action.Removal r (record { start = omega arith; length = omega arith; leaf = omega arith; device = omega arith; offset = omega arith }) }

-- a reader before the first item
pub past_start : (s : Reader) → Past Shaped s Items made s
past_start s =
    record {
      some = some_items;
      goes = λ v t h. moves_like Items Shaped made items_text s t v h;
      fails = λ e t h. fails_like Items Shaped made items_text (λ w c g. let i = shaped_items w c g in (i.0, i.1)) s t e h;
    }

pub hex_free : {x : List ℕ} {most : ℕ} {end : Divider} → Free (After x (Number 16 most end))
hex_free {x} {most} {end} = after_free x (Number 16 most end) (number_free 16 most end (omega arith))

pub action_free : {x : List ℕ} → Free (After x (Chosen (spelt action_text)))
action_free {x} = after_free x _ (chosen_free (spelt action_text) action_set.apart)

pub kind_free : {x : List ℕ} → Free (After x (Chosen (spelt kind_text)))
kind_free {x} = after_free x _ (chosen_free (spelt kind_text) kind_set.apart)

pub writes_free : {x : List ℕ} → Free (After x (Chosen (spelt writes_text)))
writes_free {x} = after_free x _ (chosen_free (spelt writes_text) writes_set.apart)

items_free : Free Items
items_free =
    then_free _ _ action_free
    (then_free _ _ hex_free (then_free _ _ hex_free (then_free _ _ hex_free (then_free _ _ hex_free (then_free _ _ hex_free
    (then_free _ _ kind_free (then_free _ _ writes_free (literal_free _))))))))

pub shaped_free : Free Shaped
shaped_free = free_like Items Shaped made shaped_items items_free

pub lined_shaped : (w : List ℕ) (c : Change) → Lined w c → Shaped w c
lined_shaped w c h =
    (h.0, record { start = omega (arith, h.1.ends); length = omega (arith, h.1.ends); leaf = h.1.leaf_high; device = h.1.device; offset = omega (arith, h.1.within) })

pub lined_free : Free Lined
lined_free = record { one = λ a b w v z y h k e. shaped_free.one a b w v z y (lined_shaped w a h) (lined_shaped v b k) e }

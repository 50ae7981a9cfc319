-- Lists of lines.
use Rattle.std.proofs.Common.{◌≡◌, ℕ, ◌+◌, ◌<◌, ◌≤◌, ◌≢◌, Bool, false, List, [], ◌∷◌, ◌++◌, length, get_or, drop, set, Ok, Err, Some, None, Result, Decides, sym, refl, ap, ◌∙◌, subst, append_assoc, append-nil, arith}
use Rattle.std.specs.List.{AllByRecursion}
use Rattle.std.proofs.lemmas.List.{append_cancel_left, length-append, set_at, drop_more, length_push, flat_map_more}
use Rattle.std.proofs.ByRecursion.{All-push}
use Rattle.std.proofs.lemmas.Bool.Decides.{not_from_Decides}
use Rattle.lexis.specs.Lang.{Got}
use Rattle.lexis.specs.declared.lost.Lost.{Lost as Failed}
use Rattle.lexis.specs.declared.reader.Reader.{Reader}
use Rattle.lexis.specs.Moving.{Moves, rest_of, lost_of}
use Rattle.lexis.proofs.Steps.{read_got, read_lost}
use Rattle.std.specs.Result.{result_ok}
use Rattle.model.specs.declared.changes.Change.{Change}
use Rattle.model.specs.declared.changes.Change.TheVariants.{Removal, Addition}
use Rattle.changes.specs.Lines.{line, text_of, Writable, Spells}
use Rattle.changes.specs.Shapes.{Shaped, Lined, NoLine, Turned}
use Rattle.changes.proofs.Items.{shaped_free, lined_shaped, lined_free}

-- what a reader of the bytes x found that went over a line of the right shape
module _ (s t : Reader) (x : List ℕ) (had : rest_of s ≡ x) where
  pub read_line : (r : Result Change Failed) (c : Change) → Moves Shaped s r t → Some c ≡ result_ok r → Got Shaped x c (rest_of t)
  read_line (Ok d) c m e = let f : d ≡ c = cc in subst (λ k. Got Shaped x k (rest_of t)) f (read_got Shaped s t d x had m)
  read_line (Err d) c m e = absurd (let f : ◌≡◌ {A = ℕ} 0 1 = cc in omega arith)

  -- or that there is none
  pub read_no_line : lost_of s ≡ None → (r : Result Change Failed) → Moves Shaped s r t → None ≡ result_ok r → NoLine x
  read_no_line fresh (Ok d) m e = absurd (let f : ◌≡◌ {A = ℕ} 0 1 = cc in omega arith)
  read_no_line fresh (Err d) m e = λ c w z f h. (read_lost Shaped s t d x had fresh m).0.none c w z f (lined_shaped w c h)

pub unwritable : (x : List ℕ) (c : Change) (y : List ℕ) (r : Bool) → Got Shaped x c y → Decides r (Writable c) → r ≡ false → NoLine x
unwritable x c y r g d f b w z e h =
    let s = shaped_free.one c b g.front w y z g.word (lined_shaped w b h) (sym g.split ∙ e) in
    not_from_Decides r d f (subst Writable (sym s.1) h.1)

line_some : (c : Change) (z : List ℕ) → [] ≡ line c ++ z → ⊥
line_some (Addition r) z e = let f : ◌≡◌ {A = ℕ} 0 1 = cc in omega arith
line_some (Removal r) z e = let f : ◌≡◌ {A = ℕ} 0 1 = cc in omega arith

-- no bytes begin with no line
pub ended : (x : List ℕ) → x ≡ [] → NoLine x
ended x e c w z f h = line_some c z (sym e ∙ f ∙ ap (λ l. l ++ z) h.0)

-- what a turn over the lines of x gave
module _ {E : Type 0} (x y : List ℕ) where
  pub turned_line : (r : Result Change E) (c : Change) → Turned x (Some r) y → Some c ≡ result_ok r → Got Lined x c y
  turned_line (Ok d) c t e = let f : d ≡ c = cc in subst (λ k. Got Lined x k y) f t
  turned_line (Err d) c t e = absurd (let f : ◌≡◌ {A = ℕ} 0 1 = cc in omega arith)

  pub turned_bad : (r : Result Change E) → Turned x (Some r) y → None ≡ result_ok r → (x ≢ []) × NoLine x
  turned_bad (Ok d) t e = absurd (let f : ◌≡◌ {A = ℕ} 0 1 = cc in omega arith)
  turned_bad (Err d) t e = (t.0, t.1)

-- a list of lines that begins with the lines of cs goes on from there
peel : (cs ds : List Change) (rest : List ℕ) → AllByRecursion Writable cs → AllByRecursion Writable ds → text_of ds ≡ text_of cs ++ rest → (es : List Change) × (ds ≡ cs ++ es) × (text_of es ≡ rest) × AllByRecursion Writable es
peel [] ds rest a b e = (ds, refl, e, b)
peel (c ∷ cs) [] rest a b e = absurd (line_some c (text_of cs ++ rest) (e ∙ append_assoc (line c) (text_of cs) rest))
peel (c ∷ cs) (d ∷ ds) rest a b e =
    let f : line d ++ text_of ds ≡ line c ++ (text_of cs ++ rest) = e ∙ append_assoc (line c) (text_of cs) rest in
    let s = lined_free.one d c (line d) (line c) _ _ (refl, b.0) (refl, a.0) f in
    let t : text_of ds ≡ text_of cs ++ rest = append_cancel_left (line d) _ _ (f ∙ ap (λ l. l ++ (text_of cs ++ rest)) (sym s.0)) in
    let r = peel cs ds rest a.1 b.1 t in
    (r.0, (λ i. s.1 i ∷ r.1 i), r.2, r.3)

none_left : (es : List Change) (rest : List ℕ) → NoLine rest → AllByRecursion Writable es → text_of es ≡ rest → es ≡ []
none_left [] rest n a e = refl
none_left (c ∷ es) rest n a e = absurd (n c (line c) (text_of es) (sym e) (refl, a.0))

-- what is read so far: `list`, and `rest` to come
pub record Sofar (bytes rest : List ℕ) (n : ℕ) : Type 0 where
  pub list : List Change
  pub split : bytes ≡ text_of list ++ rest
  pub each : AllByRecursion Writable list
  pub count : length list ≡ n

abbrev pub sofar_none : (bytes : List ℕ) → Sofar bytes bytes 0
sofar_none bytes = record { list = []; split = refl; each = tt; count = refl }

pub text_push : (cs : List Change) (c : Change) → text_of (cs ++ c ∷ []) ≡ text_of cs ++ line c
text_push cs c = sym (flat_map_more line [] cs c)

abbrev pub sofar_more : (bytes rest after : List ℕ) (n : ℕ) (c : Change) → Sofar bytes rest n → Got Lined rest c after → Sofar bytes after (n + 1)
sofar_more bytes rest after n c h g =
    record {
      list = h.list ++ c ∷ [];
      split = h.split ∙ ap (λ l. text_of h.list ++ l) (g.split ∙ ap (λ l. l ++ after) g.word.0) ∙ sym (append_assoc (text_of h.list) (line c) after) ∙ ap (λ l. l ++ after) (sym (text_push h.list c));
      each = All-push Writable h.list c h.each g.word.1;
      count = length_push h.list c ∙ ap (λ k. k + 1) h.count;
    }

pub stopped : (bytes rest : List ℕ) (n : ℕ) (h : Sofar bytes rest n) → NoLine rest → (ds : List Change) → Spells bytes ds → (ds ≡ h.list) × (rest ≡ [])
stopped bytes rest n h none ds s =
    let p = peel h.list ds rest h.each s.1 (sym s.0 ∙ h.split) in
    let e = none_left p.0 rest none p.3 p.2 in
    (p.1 ∙ ap (λ l. h.list ++ l) e ∙ append-nil h.list, sym p.2 ∙ ap text_of e)

pub full : (bytes rest : List ℕ) (n : ℕ) (h : Sofar bytes rest n) → (ds : List Change) → Spells bytes ds → length ds ≤ n → ds ≡ h.list
full bytes rest n h ds s short =
    let p = peel h.list ds rest h.each s.1 (sym s.0 ∙ h.split) in
    p.1 ∙ ap (λ l. h.list ++ l) (empty p.0 (omega (arith, ap length p.1 ∙ length-append h.list p.0, h.count))) ∙ append-nil h.list
  where
    empty : (es : List Change) → length es ≤ 0 → es ≡ []
    empty [] k = refl
    empty (x ∷ es) k = absurd (omega arith)

line_long : (c : Change) → 0 < length (line c)
line_long (Addition r) = omega arith
line_long (Removal r) = omega arith

pub line_shorter : (x : List ℕ) (c : Change) (y : List ℕ) → Got Lined x c y → length y < length x
line_shorter x c y g = omega (arith, ap length g.split ∙ length-append g.front y, ap length g.word.0, line_long c)

pub stored : (xs rs es : List Change) (n : ℕ) (c : Change) → length xs ≡ n → n < length es → rs ≡ xs ++ drop n es → set rs n c ≡ (xs ++ c ∷ []) ++ drop (n + 1) es
stored xs rs es n c e lt h =
    ap (λ l. set l n c) (h ∙ ap (λ l. xs ++ l) (drop_more es n c lt)) ∙ set_at xs (get_or es n c) (drop (n + 1) es) c n e ∙ sym (append_assoc xs (c ∷ []) (drop (n + 1) es))

pub as_stored : (rs xs ds es : List Change) (n : ℕ) → rs ≡ xs ++ drop n es → length xs ≡ n → ds ≡ xs → rs ≡ ds ++ drop (length ds) es
as_stored rs xs ds es n h k e = h ∙ (λ i. sym e i ++ drop ((sym k ∙ ap length (sym e)) i) es)

-- the bytes are the text of one list at most
pub spells_same : (bytes : List ℕ) (cs ds : List Change) → Spells bytes cs → Spells bytes ds → ds ≡ cs
spells_same bytes cs ds s t =
    let p = peel cs ds [] s.1 t.1 (sym t.0 ∙ s.0 ∙ sym (append-nil (text_of cs))) in
    p.1 ∙ ap (λ l. cs ++ l) (gone p.0 p.2) ∙ append-nil cs
  where
    gone : (es : List Change) → text_of es ≡ [] → es ≡ []
    gone [] e = refl
    gone (c ∷ es) e = absurd (line_some c (text_of es) (sym e))

-- Languages: which bytes write which values, and what is answered where a word is read from the front of a list.
use Rattle.std.specs.Prelude.{◌≡◌, ℕ, ◌<◌, List, [], ◌∷◌, ◌++◌, length, ◌==◌, Ok, Err, Result, Some, None, Option}
use Rattle.std.specs.List.{ContainsAt as Has, common_prefix_len}

-- some word of L begins with p
pub record Begun {A : Type 0} (L : List ℕ → A → Type 0) (p : List ℕ) : Type 0 where
  pub value : A
  pub more : List ℕ
  pub word : L (p ++ more) value

-- x is a word of L that writes a, and then rest
pub record Got {A : Type 0} (L : List ℕ → A → Type 0) (x : List ℕ) (a : A) (rest : List ℕ) : Type 0 where
  pub front : List ℕ
  pub split : x ≡ front ++ rest
  pub word : L front a

-- x begins with no word of L; what stands before rest begins one, and with the first byte of rest it begins none
pub record Lost {A : Type 0} (L : List ℕ → A → Type 0) (x : List ℕ) (rest : List ℕ) : Type 0 where
  pub front : List ℕ
  pub split : x ≡ front ++ rest
  pub viable : Begun L front
  pub stops : (c : ℕ) (z : List ℕ) → rest ≡ c ∷ z → Begun L (front ++ c ∷ []) → ⊥
  pub none : (a : A) (w z : List ℕ) → x ≡ w ++ z → L w a → ⊥

-- a word of L and then a word of M, with both values
pub record Then {A B : Type 0} (L : List ℕ → A → Type 0) (M : List ℕ → B → Type 0) (w : List ℕ) (p : A × B) : Type 0 where
  pub left : List ℕ
  pub right : List ℕ
  pub whole : w ≡ left ++ right
  pub first : L left p.0
  pub second : M right p.1

-- the text x, and then a word of L
pub record After {A : Type 0} (x : List ℕ) (L : List ℕ → A → Type 0) (w : List ℕ) (a : A) : Type 0 where
  pub more : List ℕ
  pub whole : w ≡ x ++ more
  pub word : L more a

-- a word of L that writes some a, and then a word of M a
pub record Join {A B : Type 0} (L : List ℕ → A → Type 0) (M : A → List ℕ → B → Type 0) (w : List ℕ) (b : B) : Type 0 where
  pub value : A
  pub left : List ℕ
  pub right : List ℕ
  pub whole : w ≡ left ++ right
  pub first : L left value
  pub second : M value right b

-- one step from x to y of a reader that stays where it was lost: over a word of L that writes a, or to where x begins no word
abbrev pub Step : {A E : Type 0} → (List ℕ → A → Type 0) → Option E → List ℕ → Result A E → List ℕ → Type 0
Step L (Some e) x r y = (r ≡ Err e) × (y ≡ x)
Step L None x (Ok a) y = Got L x a y
Step L None x (Err e) y = Lost L x y

-- one text
abbrev pub Literal : List ℕ → List ℕ → Unit {0} → Type 0
Literal t w u = w ≡ t

-- one of several texts
abbrev pub Chosen : {K : Type 0} → (K → List ℕ) → List ℕ → K → Type 0
Chosen word w k = w ≡ word k

-- all is the whole of K, not empty, and no word begins another
pub record Vocabulary {K : Type 0} (word : K → List ℕ) (all : List K) : Type 0 where
  pub some : 0 < length all
  pub whole : (k : K) → Has all k
  pub apart : (a b : K) (u : List ℕ) → word b ≡ word a ++ u → a ≡ b

-- how many bytes at the front of two lists agree
abbrev pub agree : List ℕ → List ℕ → ℕ
agree xs ys = common_prefix_len ◌==◌ xs ys

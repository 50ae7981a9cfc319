-- Laws of a device that is the front of an array, as RAM and ROM have it.
use Rattle.std.proofs.Common.{◌≡◌, ℕ, ◌<◌, ◌≤◌, min, ◌⊎◌, List, ◌++◌, length, get_or, take, drop, set, replicate, sym, ap, ◌∙◌, inl, inr, arith, lit<}
use Rattle.std.proofs.lemmas.List.{set_past, set-get_or, get_or-replicate, length-append, length-drop, length-replicate, length-take, length-take-le, take-append-le, take_all, take_min}
use Rattle.std.proofs.lemmas.Bool.{cases_lt}
use Rattle.model.specs.declared.kinds.Kind.TheVariants.{Ram as Ram', Rom as Rom'}
use Rattle.bank.specs.declared.front.Front.{Front}
use Rattle.bank.specs.Devices.{Device, masked, put}
use Rattle.bank.specs.Banks.{ram_of, rom_of, shown_for, zeroed, burnt}
use Rattle.bank.specs.Soundness.{Small, take_small, replicate_small, front_held, front_long, rom_sound}
use Rattle.bank.proofs.Mixes.{append_small, drop_small, masked_full, masked_none}

-- a write of b where every byte has the same mask, and v is what that makes of the byte
level_put : (xs : List ℕ) (n mask o b v : ℕ) → length xs ≡ n → masked (get_or xs o 0) mask b ≡ v → set xs o (masked (get_or xs o 0) (get_or (replicate n mask) o 0) b) ≡ set xs o v
level_put xs n mask o b v long e = go (cases_lt o n)
  where
    go : (o < n) ⊎ (n ≤ o) → set xs o (masked (get_or xs o 0) (get_or (replicate n mask) o 0) b) ≡ set xs o v
    go (inl h) = ap (set xs o) (ap (λ k. masked (get_or xs o 0) k b) (get_or-replicate n o mask 0 h) ∙ e)
    go (inr h) = set_past xs o _ (omega arith) ∙ sym (set_past xs o v (omega arith))

ram_same : (xs ys : List ℕ) (n k : ℕ) → xs ≡ ys → n ≡ k → ◌≡◌ {A = Device} (record { kind = Ram'; bytes = xs; masks = replicate n 255 }) (record { kind = Ram'; bytes = ys; masks = replicate k 255 })
ram_same xs ys n k p q = rw (p, q)

-- RAM takes the byte whole
pub ram_put : (f g : Front) (o b : ℕ) → b < 256 → g.len ≡ f.len → take g.len g.bytes ≡ set (take f.len f.bytes) o b → ram_of g ≡ put (ram_of f) o b
ram_put f g o b h same after =
    let xs = take f.len f.bytes in
    let new = level_put xs f.len 255 o b b (front_long f.len f.bytes (front_held f)) (masked_full (get_or xs o 0) b h) in
    ram_same (take g.len g.bytes) _ g.len f.len (after ∙ sym new) same

-- ROM keeps its byte
pub rom_put : (f : Front) (o b : ℕ) → rom_of f ≡ put (rom_of f) o b
rom_put f o b =
    let xs = take f.len f.bytes in
    let old = level_put xs f.len 0 o b (get_or xs o 0) (front_long f.len f.bytes (front_held f)) (masked_none (get_or xs o 0) b ((rom_sound f).small o)) in
    ap (λ (ys : List ℕ). record { kind = Rom'; bytes = ys; masks = replicate f.len 0 }) (sym (set-get_or xs o 0) ∙ sym old)

-- RAM as it is made
pub ram_fresh : (f : Front) (n k : ℕ) → take f.len f.bytes ≡ replicate n 0 → f.len ≡ n → n ≡ shown_for k → ram_of f ≡ zeroed (shown_for k)
ram_fresh f n k shown long e = ram_same _ _ _ _ (shown ∙ ap (λ n. replicate n 0) e) (long ∙ e)

counted : (n k : ℕ) (xs : List ℕ) → n ≡ min (length xs) k → take n xs ≡ take k xs
counted n k xs e = let low : n ≡ min k (length xs) = omega arith in rw low (take_min k xs)

-- an array over which the first n of the bytes were copied
module _ (bytes new : List ℕ) (n : ℕ) (count : n ≡ min (length bytes) 8192) (copied : new ≡ take n bytes) where
  copied_long : length new ≡ n
  copied_long = rw copied (length-take-le n bytes (omega arith))

  pub array_long : length (new ++ drop n (replicate 8192 0)) ≡ 8192
  array_long = simp (length-append, length-drop, length-replicate) (omega (arith, copied_long))

  pub array_small : Small bytes → Small (new ++ drop n (replicate 8192 0))
  array_small s =
      append_small new (drop n (replicate 8192 0)) (rw copied (take_small n bytes s)) (drop_small n (replicate 8192 0) (replicate_small 8192 0 (lit< tt)))

  pub array_shown : take n (new ++ drop n (replicate 8192 0)) ≡ take 8192 bytes
  array_shown =
      take-append-le n new _ (omega (arith, copied_long)) ∙ take_all n new (omega (arith, copied_long)) ∙ copied ∙ counted n 8192 bytes count

  pub array_count : n ≡ length (take 8192 bytes)
  array_count = simp length-take (omega arith)

-- ROM as it is made
pub rom_fresh : (f : Front) (bytes : List ℕ) → take f.len f.bytes ≡ take 8192 bytes → f.len ≡ length (take 8192 bytes) → rom_of f ≡ burnt bytes
rom_fresh f bytes shown long = rom_same _ (take 8192 bytes) f.len shown long
  where
    rom_same : (xs ys : List ℕ) (n : ℕ) → xs ≡ ys → n ≡ length ys → ◌≡◌ {A = Device} (record { kind = Rom'; bytes = xs; masks = replicate n 0 }) (record { kind = Rom'; bytes = ys; masks = replicate (length ys) 0 })
    rom_same xs ys n p q = rw (p, q)

-- Laws of a device whose bytes are registers.
use Rattle.std.proofs.Common.{◌≡◌, ℕ, suc, ◌<◌, List, [], ◌∷◌, length, get_or, set, map, replicate, refl, ap, ◌∙◌, arith}
use Rattle.std.proofs.lemmas.List.{map-set, get_or-map, set-get_or}
use Rattle.model.specs.declared.kinds.Kind.TheVariants.{Reg}
use Rattle.bank.specs.declared.register.Register.{Register}
use Rattle.bank.specs.Devices.{Device, masked, put}
use Rattle.bank.specs.Banks.{registers_of, cleared}

-- a register that is 0, under this mask
abbrev pub Clear : Register → ℕ → Type 0
Clear r mask = (r.value ≡ 0) × (r.mask ≡ mask)

clear_values : (rs : List Register) (masks : List ℕ) (d : Register) → length rs ≡ length masks → ((i : ℕ) → i < length rs → Clear (get_or rs i d) (get_or masks i 0)) → map (λ (r : Register). r.value) rs ≡ replicate (length masks) 0
clear_values [] [] d e h = refl
clear_values [] (m ∷ ms) d e h = absurd (omega arith)
clear_values (r ∷ rs) [] d e h = absurd (omega arith)
clear_values (r ∷ rs) (m ∷ ms) d e h =
    let first : r.value ≡ 0 = (h 0 (omega arith)).0 in
    let rest = clear_values rs ms d (omega arith) (λ i k. h (suc i) (omega arith)) in
    cc

clear_masks : (rs : List Register) (masks : List ℕ) (d : Register) → length rs ≡ length masks → ((i : ℕ) → i < length rs → Clear (get_or rs i d) (get_or masks i 0)) → map (λ (r : Register). r.mask) rs ≡ masks
clear_masks [] [] d e h = refl
clear_masks [] (m ∷ ms) d e h = absurd (omega arith)
clear_masks (r ∷ rs) [] d e h = absurd (omega arith)
clear_masks (r ∷ rs) (m ∷ ms) d e h =
    let first : r.mask ≡ m = (h 0 (omega arith)).1 in
    let rest = clear_masks rs ms d (omega arith) (λ i k. h (suc i) (omega arith)) in
    cc

registers_same : (vs ws ks ls : List ℕ) → vs ≡ ws → ks ≡ ls → ◌≡◌ {A = Device} (record { kind = Reg; bytes = vs; masks = ks }) (record { kind = Reg; bytes = ws; masks = ls })
registers_same vs ws ks ls p q = rw (p, q)

-- registers as they are made
pub registers_fresh : (rs : List Register) (masks : List ℕ) (d : Register) → length rs ≡ 256 → length masks ≡ 256 → ((i : ℕ) → i < 256 → Clear (get_or rs i d) (get_or masks i 0)) → registers_of rs ≡ cleared masks
registers_fresh rs masks d long level h =
    let same : length rs ≡ length masks = omega arith in
    let each = λ (i : ℕ) (k : i < length rs). h i (omega arith) in
    registers_same _ _ _ _ (clear_values rs masks d same each ∙ ap (λ n. replicate n 0) level) (clear_masks rs masks d same each)

-- a register that takes a byte, among the others
pub registers_put : (rs : List Register) (o b : ℕ) (d r : Register) → o < length rs → r.value ≡ masked (get_or rs o d).value (get_or rs o d).mask b → r.mask ≡ (get_or rs o d).mask → registers_of (set rs o r) ≡ put (registers_of rs) o b
registers_put rs o b d r h value mask =
    let v : get_or (map (λ (r : Register). r.value) rs) o 0 ≡ (get_or rs o d).value = get_or-map (λ (r : Register). r.value) rs o d 0 h in
    let k : get_or (map (λ (r : Register). r.mask) rs) o 0 ≡ (get_or rs o d).mask = get_or-map (λ (r : Register). r.mask) rs o d 0 h in
    let x : r.value ≡ masked (get_or (map (λ (r : Register). r.value) rs) o 0) (get_or (map (λ (r : Register). r.mask) rs) o 0) b = rw (v, k) value in
    let y : r.mask ≡ get_or (map (λ (r : Register). r.mask) rs) o 0 = rw k mask in
    registers_same _ _ _ _ (map-set (λ (r : Register). r.value) rs o r ∙ ap (set (map (λ (r : Register). r.value) rs) o) x) (map-set (λ (r : Register). r.mask) rs o r ∙ ap (set (map (λ (r : Register). r.mask) rs) o) y ∙ set-get_or (map (λ (r : Register). r.mask) rs) o 0)

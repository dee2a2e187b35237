-- What the two running sums of the checksum are modulo 255, and that the two check bytes make them 0.
use Rattle.std.proofs.Common.{◌≡◌, ℕ, ◌⊎◌, ◌+◌, ◌*◌, ◌-◌, ◌/◌, ◌%◌, ◌<◌, ◌≤◌, List, [], ◌∷◌, ◌++◌, length, Bool, true, false, cond, refl, sym, ap, ◌∙◌, subst, arith, inl, inr, zero, suc, drop, get_or, append_assoc, lit<}
use Rattle.std.specs.Prelude.{IsTrue, ◌&&◌, ◌==◌}
use Rattle.std.proofs.lemmas.List.Sums.{fold-append}
use Rattle.std.proofs.lemmas.Bool.{eqb-true}
use Rattle.std.proofs.lemmas.Nat.{mul-le}
use Rattle.std.proofs.lemmas.Bool.Decides.{nat_tests}
use Rattle.spb_types.specs.declared.address.LspId.{LspId}
use Rattle.isis_pdu.specs.declared.checksum.Sums.{Sums}
use Rattle.spb_types.specs.Bytes.{lsp_id_bytes}
use Rattle.isis_pdu.specs.Bytes.{u32_bytes}
use Rattle.isis_pdu.specs.Grammar.{IsBytes}
use Rattle.isis_pdu.specs.Checksum.{IsReduced, total, weight, summed, sums_from, sums_of, is_checked, covered, check_byte, first_check, second_check, check_field, lsp_sum_of, HasCheckBytes}

-- two numbers are the same modulo 255
pub record IsCongruent (a b : ℕ) : Type 0 where
  pub p : ℕ
  pub q : ℕ
  pub same : a + 255 * p ≡ b + 255 * q

congruent_refl : (a : ℕ) → IsCongruent a a
congruent_refl a = record { p = 0; q = 0; same = refl }

congruent_sym : (a b : ℕ) → IsCongruent a b → IsCongruent b a
congruent_sym a b h = record { p = h.q; q = h.p; same = sym h.same }

congruent_trans : (a b c : ℕ) → IsCongruent a b → IsCongruent b c → IsCongruent a c
congruent_trans a b c h k = record { p = h.p + k.p; q = h.q + k.q; same = omega (arith, h.same, k.same) }

congruent_add : (a b c d : ℕ) → IsCongruent a b → IsCongruent c d → IsCongruent (a + c) (b + d)
congruent_add a b c d h k = record { p = h.p + k.p; q = h.q + k.q; same = omega (arith, h.same, k.same) }

congruent_mul : (k a b : ℕ) → IsCongruent a b → IsCongruent (k * a) (k * b)
congruent_mul k a b h = record { p = k * h.p; q = k * h.q; same = omega (arith, ap (λ (x : ℕ). k * x) h.same) }

congruent_mul' : (k a b : ℕ) → IsCongruent a b → IsCongruent (a * k) (b * k)
congruent_mul' k a b h = record { p = k * h.p; q = k * h.q; same = omega (arith, ap (λ (x : ℕ). k * x) h.same) }

congruent_mod : (n : ℕ) → IsCongruent (n % 255) n
congruent_mod n = record { p = n / 255; q = 0; same = omega arith }

congruent_is : (a b : ℕ) → a ≡ b → IsCongruent a b
congruent_is a b e = record { p = 0; q = 0; same = omega (arith, e) }

-- below 255, only 0 is 0 modulo 255
congruent_zero : (n : ℕ) → n < 255 → IsCongruent n 0 → n ≡ 0
congruent_zero n lt h = omega (arith, h.same)

-- the running sums e, which were s before the bytes, are these, modulo 255
pub record IsAfter (s e : Sums) (bytes : List ℕ) : Type 0 where
  pub c0 : IsCongruent e.c0 (s.c0 + total bytes)
  pub c1 : IsCongruent e.c1 (s.c1 + length bytes * s.c0 + weight bytes)

sums_after : (s : Sums) (bytes : List ℕ) → IsAfter s (sums_from s bytes) bytes
sums_after s [] = record { c0 = congruent_is _ _ (omega arith); c1 = congruent_is _ _ (omega arith) }
sums_after s (b ∷ bs) =
    let n = summed s b in
    let rest : IsAfter n (sums_from n bs) bs = sums_after n bs in
    let first : IsCongruent n.c0 (s.c0 + b) = congruent_mod _ in
    let second : IsCongruent n.c1 (s.c1 + n.c0) = congruent_mod _ in
    let e : ℕ = (sums_from n bs).c1 in
    let m : ℕ = length bs in
    let spread : IsCongruent ((1 + m) * n.c0) ((1 + m) * (s.c0 + b)) = congruent_mul (1 + m) _ _ first in
    record {
      c0 = congruent_trans _ _ _ rest.c0 (record { p = first.p; q = first.q; same = omega (arith, first.same) });
      c1 = record {
        p = rest.c1.p + second.p + spread.p;
        q = rest.c1.q + second.q + spread.q;
        same = omega (arith, rest.c1.same, second.same, spread.same);
      };
    }

-- both sums stay below 255
pub sums_reduced : (s : Sums) (bytes : List ℕ) → IsReduced s → IsReduced (sums_from s bytes)
sums_reduced s [] h = h
sums_reduced s (b ∷ bs) h = sums_reduced (summed s b) bs (record { c0 = omega arith; c1 = omega arith })

-- numbers below 255 that are the same modulo 255 are the same
congruent_same : (a b : ℕ) → a < 255 → b < 255 → IsCongruent a b → a ≡ b
congruent_same a b ha hb h = omega (arith, h.same)

-- the sums that the totals of a block make
pub reduced_is : (s : Sums) (bytes : List ℕ) → IsReduced s → (record { c0 = (s.c0 + total bytes) % 255; c1 = (s.c1 + length bytes * s.c0 + weight bytes) % 255 }) ≡ sums_from s bytes
reduced_is s bytes h =
    let e : Sums = sums_from s bytes in
    let after : IsAfter s e bytes = sums_after s bytes in
    let low : IsReduced e = sums_reduced s bytes h in
    let c0 : (s.c0 + total bytes) % 255 ≡ e.c0 = congruent_same _ _ (omega arith) low.c0 (congruent_trans _ _ _ (congruent_mod _) (congruent_sym _ _ after.c0)) in
    let c1 : (s.c1 + length bytes * s.c0 + weight bytes) % 255 ≡ e.c1 = congruent_same _ _ (omega arith) low.c1 (congruent_trans _ _ _ (congruent_mod _) (congruent_sym _ _ after.c1)) in
    sums_are _ _ e c0 c1
  where
    sums_are : (x y : ℕ) (e : Sums) → x ≡ e.c0 → y ≡ e.c1 → (record { c0 = x; c1 = y }) ≡ e
    sums_are x y e p q = rw (p, q) refl

-- ---- how great the totals of a block are

pub total_high : (bytes : List ℕ) → IsBytes bytes → total bytes ≤ 255 * length bytes
total_high [] fits = omega arith
total_high (b ∷ bs) fits = omega (arith, fits 0, total_high bs (λ i. fits (suc i)))

pub weight_high : (bytes : List ℕ) → IsBytes bytes → length bytes ≤ 4096 → weight bytes ≤ 1044480 * length bytes
weight_high [] fits short = omega arith
weight_high (b ∷ bs) fits short =
    let first : b * (1 + length bs) ≤ 255 * 4096 = mul-le b (1 + length bs) 255 4096 (omega (arith, fits 0)) (omega arith) in
    omega (arith, first, weight_high bs (λ i. fits (suc i)) (omega arith))

-- the next byte is a part of what is left to add
pub next_total : (bytes : List ℕ) (i : ℕ) → i < length bytes → get_or bytes i 0 ≤ total (drop i bytes)
next_total [] i within = absurd (omega arith)
next_total (b ∷ bs) zero within = omega arith
next_total (b ∷ bs) (suc i) within = next_total bs i (omega arith)

pub next_weight : (bytes : List ℕ) (i : ℕ) → i < length bytes → get_or bytes i 0 * length (drop i bytes) ≤ weight (drop i bytes)
next_weight [] i within = absurd (omega arith)
next_weight (b ∷ bs) zero within = omega arith
next_weight (b ∷ bs) (suc i) within = next_weight bs i (omega arith)

-- a check byte is in 1 to 255, and congruent to what it was made of
pub record IsCheckByte (x n : ℕ) : Type 0 where
  pub low : 1 ≤ x
  pub high : x ≤ 255
  pub same : IsCongruent x n

check_byte-low : (n : ℕ) → 1 ≤ check_byte n
check_byte-low n = grind (arith, nat_tests)

check_byte-high : (n : ℕ) → check_byte n ≤ 255
check_byte-high n = grind (arith, nat_tests)

check_byte-mod : (n : ℕ) → (check_byte n ≡ n % 255) ⊎ ((check_byte n ≡ 255) × (n % 255 ≡ 0))
check_byte-mod n = chosen (n % 255) (n % 255 == 0) refl
  where
    chosen : (r : ℕ) (b : Bool) → (r == 0) ≡ b → (cond b 255 r ≡ r) ⊎ ((cond b 255 r ≡ 255) × (r ≡ 0))
    chosen r true e = inr (refl, eqb-true r 0 e)
    chosen r false e = inl refl

check_byte_is : (n : ℕ) → IsCheckByte (check_byte n) n
check_byte_is n = record {
  low = check_byte-low n;
  high = check_byte-high n;
  same = elim (check_byte-mod n) [
    | inl e ↦ record { p = n / 255; q = 0; same = omega (arith, e) }
    | inr e ↦ record { p = n / 255; q = 1; same = omega (arith, e.0, e.1) }
  ];
}

-- the two check bytes before the bytes `tail`, with the sums `s` before them
pub checks_hold : (s : Sums) (flags : ℕ) (tlvs : List ℕ) → IsReduced s
    → let z = sums_from s (0 ∷ 0 ∷ flags ∷ tlvs) in
    let e = sums_from s (first_check z (length tlvs) ∷ second_check z (length tlvs) ∷ flags ∷ tlvs) in
    (e.c0 ≡ 0) × (e.c1 ≡ 0)
checks_hold s flags tlvs h =
    let tail : List ℕ = flags ∷ tlvs in
    let t : ℕ = length tlvs in
    let z : Sums = sums_from s (0 ∷ 0 ∷ tail) in
    let z_low : IsReduced z = sums_reduced s (0 ∷ 0 ∷ tail) h in
    let x : ℕ = first_check z t in
    let y : ℕ = second_check z t in
    let e : Sums = sums_from s (x ∷ y ∷ tail) in
    let e_low : IsReduced e = sums_reduced s (x ∷ y ∷ tail) h in
    let zeros : IsAfter s z (0 ∷ 0 ∷ tail) = sums_after s (0 ∷ 0 ∷ tail) in
    let both : IsAfter s e (x ∷ y ∷ tail) = sums_after s (x ∷ y ∷ tail) in
    let first : IsCheckByte x ((t % 255 + 2) * z.c0 + 255 - z.c1) = check_byte_is _ in
    let second : IsCheckByte y (510 - z.c0 - x) = check_byte_is _ in
    let places : IsCongruent (t % 255 * z.c0) (t * z.c0) = congruent_mul' z.c0 _ _ (congruent_mod t) in (
      congruent_zero e.c0 e_low.c0 (end_c0 e.c0 z.c0 s.c0 x y (total tail) z_low.c0 first.high both.c0 zeros.c0 second.same),
      congruent_zero e.c1 e_low.c1 (end_c1 e.c1 z.c1 z.c0 s.c1 s.c0 x y t (t % 255) (length (x ∷ y ∷ tail)) (weight (x ∷ y ∷ tail)) (weight tail) z_low.c0 z_low.c1 first.high (omega arith)
          both.c1 (subst (λ (w : ℕ). IsCongruent z.c1 (s.c1 + length (0 ∷ 0 ∷ tail) * s.c0 + w)) (omega arith) zeros.c1) first.same places second.same),
    )
  where
    end_c0 : (e z s x y t : ℕ) → z < 255 → x ≤ 255 → IsCongruent e (s + (x + (y + t))) → IsCongruent z (s + (0 + (0 + t))) → IsCongruent y (510 - z - x) → IsCongruent e 0
    end_c0 e z s x y t zl xl he hz hy = record { p = he.p + hz.q + hy.p; q = he.q + hz.p + hy.q + 2; same = omega (arith, he.same, hz.same, hy.same) }

    end_c1 : (e1 z1 z0 s1 s0 x y t tm n w wz : ℕ) → z0 < 255 → z1 < 255 → x ≤ 255 → w ≡ x * (t + 3) + (y * (t + 2) + wz)
        → IsCongruent e1 (s1 + n * s0 + w) → IsCongruent z1 (s1 + n * s0 + wz) → IsCongruent x ((tm + 2) * z0 + 255 - z1) → IsCongruent (tm * z0) (t * z0) → IsCongruent y (510 - z0 - x) → IsCongruent e1 0
    end_c1 e1 z1 z0 s1 s0 x y t tm n w wz z0l z1l xl ew he hz hx hp hy =
        let hxy : IsCongruent (z0 + x + y) 0 = record { p = hy.p; q = hy.q + 2; same = omega (arith, hy.same) } in
        let hm : IsCongruent ((t + 2) * (z0 + x + y)) ((t + 2) * 0) = congruent_mul (t + 2) _ _ hxy in
        let hx' : x + 255 * hx.p + z1 ≡ (tm + 2) * z0 + 255 + 255 * hx.q = omega (arith, hx.same) in
        record {
          p = hx.p + hp.p + hm.p + he.p + hz.q;
          q = 1 + hx.q + hp.q + hm.q + he.q + hz.p;
          same = omega (arith, hx', hp.same, hm.same, he.same, hz.same);
        }

-- where both sums end as 0 for two pairs of check bytes, the pairs are the same
pub checks_once : (s : Sums) (flags : ℕ) (tlvs : List ℕ) (x y a b : ℕ) → IsReduced s → 1 ≤ x → x ≤ 255 → 1 ≤ y → y ≤ 255 → 1 ≤ a → a ≤ 255 → 1 ≤ b → b ≤ 255
    → (sums_from s (x ∷ y ∷ flags ∷ tlvs)).c0 ≡ 0 → (sums_from s (x ∷ y ∷ flags ∷ tlvs)).c1 ≡ 0
    → (sums_from s (a ∷ b ∷ flags ∷ tlvs)).c0 ≡ 0 → (sums_from s (a ∷ b ∷ flags ∷ tlvs)).c1 ≡ 0 → (a ≡ x) × (b ≡ y)
checks_once s flags tlvs x y a b h x1 x2 y1 y2 a1 a2 b1 b2 x0 x1z a0 a1z =
    let tail : List ℕ = flags ∷ tlvs in
    let t : ℕ = length tlvs in
    let one : IsAfter s (sums_from s (x ∷ y ∷ tail)) (x ∷ y ∷ tail) = sums_after s (x ∷ y ∷ tail) in
    let other : IsAfter s (sums_from s (a ∷ b ∷ tail)) (a ∷ b ∷ tail) = sums_after s (a ∷ b ∷ tail) in
    let P : ℕ → Type 0 = λ n. IsCongruent n (s.c0 + (x + (y + total tail))) in
    let c0 : IsCongruent 0 (s.c0 + (x + (y + total tail))) = subst (λ (n : ℕ). IsCongruent n (s.c0 + (x + (y + total tail)))) x0 one.c0 in
    let c0' : IsCongruent 0 (s.c0 + (a + (b + total tail))) = subst (λ (n : ℕ). IsCongruent n (s.c0 + (a + (b + total tail)))) a0 other.c0 in
    let c1 : IsCongruent 0 (s.c1 + length (x ∷ y ∷ tail) * s.c0 + weight (x ∷ y ∷ tail)) = subst (λ (n : ℕ). IsCongruent n (s.c1 + length (x ∷ y ∷ tail) * s.c0 + weight (x ∷ y ∷ tail))) x1z one.c1 in
    let c1' : IsCongruent 0 (s.c1 + length (x ∷ y ∷ tail) * s.c0 + weight (a ∷ b ∷ tail)) = subst (λ (n : ℕ). IsCongruent n (s.c1 + length (x ∷ y ∷ tail) * s.c0 + weight (a ∷ b ∷ tail))) a1z other.c1 in
    same_pair s.c0 (s.c1 + length (x ∷ y ∷ tail) * s.c0) (total tail) (weight tail) t x y a b (weight (x ∷ y ∷ tail)) (weight (a ∷ b ∷ tail)) x1 x2 y1 y2 a1 a2 b1 b2 (omega arith) (omega arith) c0 c1 c0' c1'
  where
    equal : (x a : ℕ) → 1 ≤ x → x ≤ 255 → 1 ≤ a → a ≤ 255 → IsCongruent a x → a ≡ x
    equal x a x1 x2 a1 a2 h = omega (arith, h.same)

    same_pair : (s0 s1 k w t x y a b wx wa : ℕ) → 1 ≤ x → x ≤ 255 → 1 ≤ y → y ≤ 255 → 1 ≤ a → a ≤ 255 → 1 ≤ b → b ≤ 255
        → wx ≡ x * (t + 3) + (y * (t + 2) + w) → wa ≡ a * (t + 3) + (b * (t + 2) + w)
        → IsCongruent 0 (s0 + (x + (y + k))) → IsCongruent 0 (s1 + wx) → IsCongruent 0 (s0 + (a + (b + k))) → IsCongruent 0 (s1 + wa) → (a ≡ x) × (b ≡ y)
    same_pair s0 s1 k w t x y a b wx wa x1 x2 y1 y2 a1 a2 b1 b2 ex ea hx0 hx1 ha0 ha1 =
        let sums : IsCongruent (a + b) (x + y) = record { p = hx0.p + ha0.q; q = hx0.q + ha0.p; same = omega (arith, hx0.same, ha0.same) } in
        let spread : IsCongruent ((t + 2) * (a + b)) ((t + 2) * (x + y)) = congruent_mul (t + 2) _ _ sums in
        let first : IsCongruent a x = record { p = hx1.p + ha1.q + spread.q; q = hx1.q + ha1.p + spread.p; same = omega (arith, hx1.same, ha1.same, spread.same) } in
        let same : a ≡ x = equal x a x1 x2 a1 a2 first in
        (same, equal y b y1 y2 b1 b2 (record { p = sums.p; q = sums.q; same = omega (arith, sums.same, same) }))

-- what is covered: the id and the sequence number, the two check bytes, and what follows them
front : LspId → ℕ → List ℕ
front id seq = lsp_id_bytes id ++ u32_bytes seq

covered-parts : (id : LspId) (seq sum flags : ℕ) (tlvs : List ℕ) → covered id seq sum flags tlvs ≡ front id seq ++ ((sum / 256) ∷ (sum % 256) ∷ flags ∷ tlvs)
unfolding front
covered-parts id seq sum flags tlvs = simp append_assoc

sums_of-covered : (id : LspId) (seq sum flags : ℕ) (tlvs : List ℕ) → sums_of (covered id seq sum flags tlvs) ≡ sums_from (sums_of (front id seq)) ((sum / 256) ∷ (sum % 256) ∷ flags ∷ tlvs)
sums_of-covered id seq sum flags tlvs = ap sums_of (covered-parts id seq sum flags tlvs) ∙ fold-append summed _ (front id seq) _

-- the sums of five pieces, one after another
pub sums_of-pieces : (a b c d e f : List ℕ) → sums_from (sums_from (sums_from (sums_from (sums_from (sums_of a) b) c) d) e) f ≡ sums_of (a ++ b ++ c ++ d ++ e ++ f)
sums_of-pieces a b c d e f = sym (simp fold-append)

front_reduced : (id : LspId) (seq : ℕ) → IsReduced (sums_of (front id seq))
front_reduced id seq = sums_reduced (record { c0 = 0; c1 = 0 }) (front id seq) (record { c0 = lit< tt; c1 = lit< tt })

is_checked-true : (bytes : List ℕ) → (sums_of bytes).c0 ≡ 0 → (sums_of bytes).c1 ≡ 0 → IsTrue (is_checked bytes)
is_checked-true bytes p q = rw (p, q) refl

checked_is : (a b : ℕ) → IsTrue ((a == 0) && (b == 0)) → (a ≡ 0) × (b ≡ 0)
checked_is a b h = grind (arith, nat_tests)

-- the sums of what is covered, with the check bytes x and y
ends : LspId → ℕ → ℕ → List ℕ → ℕ → ℕ → Sums
ends id seq flags tlvs x y = sums_from (sums_of (front id seq)) (x ∷ y ∷ flags ∷ tlvs)

ends_is : (id : LspId) (seq flags : ℕ) (tlvs : List ℕ) (sum : ℕ) → sums_of (covered id seq sum flags tlvs) ≡ ends id seq flags tlvs (sum / 256) (sum % 256)
unfolding ends
ends_is id seq flags tlvs sum = sums_of-covered id seq sum flags tlvs

-- the field that is made is two check bytes, with which both sums are 0
pub record IsMade (id : LspId) (seq flags : ℕ) (tlvs : List ℕ) (sum : ℕ) : Type 0 where
  pub bytes : HasCheckBytes sum
  pub c0 : (sums_of (covered id seq sum flags tlvs)).c0 ≡ 0
  pub c1 : (sums_of (covered id seq sum flags tlvs)).c1 ≡ 0

made_of : (id : LspId) (seq flags : ℕ) (tlvs : List ℕ) (x y : ℕ) → 1 ≤ x → x ≤ 255 → 1 ≤ y → y ≤ 255 → (ends id seq flags tlvs x y).c0 ≡ 0 → (ends id seq flags tlvs x y).c1 ≡ 0 → IsMade id seq flags tlvs (x * 256 + y)
made_of id seq flags tlvs x y x1 x2 y1 y2 c0 c1 =
    let first : (x * 256 + y) / 256 ≡ x = omega arith in
    let second : (x * 256 + y) % 256 ≡ y = omega arith in
    let whole : sums_of (covered id seq (x * 256 + y) flags tlvs) ≡ ends id seq flags tlvs x y = ends_is id seq flags tlvs (x * 256 + y) ∙ ap (λ (a : ℕ). ends id seq flags tlvs a ((x * 256 + y) % 256)) first ∙ ap (λ (b : ℕ). ends id seq flags tlvs x b) second in
    record {
      bytes = record { first = omega arith; first_fits = omega arith; second = omega arith };
      c0 = ap (λ (s : Sums). s.c0) whole ∙ c0;
      c1 = ap (λ (s : Sums). s.c1) whole ∙ c1;
    }

lsp_sum_made : (id : LspId) (seq flags : ℕ) (tlvs : List ℕ) → IsMade id seq flags tlvs (lsp_sum_of id seq flags tlvs)
unfolding lsp_sum_of check_field ends
lsp_sum_made id seq flags tlvs =
    let t : ℕ = length tlvs in
    let z : Sums = ends id seq flags tlvs 0 0 in
    let is : sums_of (covered id seq 0 flags tlvs) ≡ z = ends_is id seq flags tlvs 0 in
    let both = checks_hold (sums_of (front id seq)) flags tlvs (front_reduced id seq) in
    subst (λ (s : Sums). IsMade id seq flags tlvs (check_field s t)) (sym is)
    (made_of id seq flags tlvs (first_check z t) (second_check z t) (check_byte-low _) (check_byte-high _) (check_byte-low _) (check_byte-high _) both.0 both.1)

-- with it both sums are 0
pub lsp_sum-bytes : (id : LspId) (seq flags : ℕ) (tlvs : List ℕ) → HasCheckBytes (lsp_sum_of id seq flags tlvs)
lsp_sum-bytes id seq flags tlvs = (lsp_sum_made id seq flags tlvs).bytes

pub lsp_sum-holds : (id : LspId) (seq flags : ℕ) (tlvs : List ℕ) → IsTrue (is_checked (covered id seq (lsp_sum_of id seq flags tlvs) flags tlvs))
lsp_sum-holds id seq flags tlvs = let m = lsp_sum_made id seq flags tlvs in is_checked-true (covered id seq (lsp_sum_of id seq flags tlvs) flags tlvs) m.c0 m.c1

-- and with no other
made_once : (id : LspId) (seq flags : ℕ) (tlvs : List ℕ) (m n : ℕ) → IsMade id seq flags tlvs m → IsMade id seq flags tlvs n → n ≡ m
unfolding ends
made_once id seq flags tlvs m n hm hn =
    let em : sums_of (covered id seq m flags tlvs) ≡ ends id seq flags tlvs (m / 256) (m % 256) = ends_is id seq flags tlvs m in
    let en : sums_of (covered id seq n flags tlvs) ≡ ends id seq flags tlvs (n / 256) (n % 256) = ends_is id seq flags tlvs n in
    let pair : ((n / 256) ≡ (m / 256)) × ((n % 256) ≡ (m % 256)) =
    checks_once (sums_of (front id seq)) flags tlvs (m / 256) (m % 256) (n / 256) (n % 256) (front_reduced id seq)
    hm.bytes.first hm.bytes.first_fits hm.bytes.second (omega arith) hn.bytes.first hn.bytes.first_fits hn.bytes.second (omega arith)
    (ap (λ (s : Sums). s.c0) (sym em) ∙ hm.c0) (ap (λ (s : Sums). s.c1) (sym em) ∙ hm.c1)
    (ap (λ (s : Sums). s.c0) (sym en) ∙ hn.c0) (ap (λ (s : Sums). s.c1) (sym en) ∙ hn.c1) in
    omega (arith, pair.0, pair.1)

pub lsp_sum-only : (id : LspId) (seq flags : ℕ) (tlvs : List ℕ) (sum : ℕ) → HasCheckBytes sum → IsTrue (is_checked (covered id seq sum flags tlvs)) → sum ≡ lsp_sum_of id seq flags tlvs
lsp_sum-only id seq flags tlvs sum fits holds =
    let s : Sums = sums_of (covered id seq sum flags tlvs) in
    let both : (s.c0 ≡ 0) × (s.c1 ≡ 0) = checked_is s.c0 s.c1 holds in
    made_once id seq flags tlvs (lsp_sum_of id seq flags tlvs) sum (lsp_sum_made id seq flags tlvs) (record { bytes = fits; c0 = both.0; c1 = both.1 })

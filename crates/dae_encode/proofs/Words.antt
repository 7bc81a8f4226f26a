-- An instruction that is found by the fields of a word has that word.
use Rattle.std.proofs.Common.{◌≡◌, ◌≢◌, ℕ, zero, suc, ◌%◌, ◌^◌, ◌<◌, ℤ, pos, ◌==◌, if◌then◌else◌, Option, Some, None, IfSome, refl, sym, arith}
use Rattle.dae_encode.specs.Instructions.{field}
use Rattle.dae_encode.specs.Decoding.{branches, loads, stores, immediates, shifts, operations, multiplications, registers_only, by_fields}
use Rattle.dae_encode.specs.Spelling.{R, I, Shift, S, B, U, J, layout, encoded, InRange}
use Rattle.dae_encode.specs.declared.Inst.{Inst}
use Rattle.dae_encode.specs.declared.Inst.TheVariants.{Lui, Auipc, Jal, Jalr, Ecall}
use Rattle.std.proofs.lemmas.Bool.Decides.{eqb_tells}
use Rattle.std.proofs.Common.{inl, inr, rules}
use Rattle.dae_encode.proofs.Fields.{Lays, lays_r, lays_i, lays_shift, lays_s, lays_b, lays_u, lays_j}

-- the instruction, if any, has this word
unfoldable Spells : ℕ → Option Inst → Type 0
Spells w o = IfSome o (λ i. Lays (layout i) w)

branches_spell : (w f3 x y : ℕ) (z : ℤ) → Lays (B 0b1100011 f3 x y z) w → Spells w (branches f3 x y z)
unfolding Spells layout branches
branches_spell w zero x y z h = h
branches_spell w (suc zero) x y z h = h
branches_spell w (suc (suc zero)) x y z h = tt
branches_spell w (suc (suc (suc zero))) x y z h = tt
branches_spell w (suc (suc (suc (suc zero)))) x y z h = h
branches_spell w (suc (suc (suc (suc (suc zero))))) x y z h = h
branches_spell w (suc (suc (suc (suc (suc (suc zero)))))) x y z h = h
branches_spell w (suc (suc (suc (suc (suc (suc (suc zero))))))) x y z h = h
branches_spell w (suc (suc (suc (suc (suc (suc (suc (suc n)))))))) x y z h = tt

loads_spell : (w f3 rd x : ℕ) (z : ℤ) → Lays (I 0b0000011 rd f3 x z) w → Spells w (loads f3 rd x z)
unfolding Spells layout loads
loads_spell w zero rd x z h = h
loads_spell w (suc zero) rd x z h = h
loads_spell w (suc (suc zero)) rd x z h = h
loads_spell w (suc (suc (suc zero))) rd x z h = tt
loads_spell w (suc (suc (suc (suc zero)))) rd x z h = h
loads_spell w (suc (suc (suc (suc (suc zero))))) rd x z h = h
loads_spell w (suc (suc (suc (suc (suc (suc n)))))) rd x z h = tt

stores_spell : (w f3 x y : ℕ) (z : ℤ) → Lays (S 0b0100011 f3 x y z) w → Spells w (stores f3 x y z)
unfolding Spells layout stores
stores_spell w zero x y z h = h
stores_spell w (suc zero) x y z h = h
stores_spell w (suc (suc zero)) x y z h = h
stores_spell w (suc (suc (suc n))) x y z h = tt

immediates_spell : (w f3 rd x : ℕ) (z : ℤ) → Lays (I 0b0010011 rd f3 x z) w → Spells w (immediates f3 rd x z)
unfolding Spells layout immediates
immediates_spell w zero rd x z h = h
immediates_spell w (suc zero) rd x z h = tt
immediates_spell w (suc (suc zero)) rd x z h = h
immediates_spell w (suc (suc (suc zero))) rd x z h = h
immediates_spell w (suc (suc (suc (suc zero)))) rd x z h = h
immediates_spell w (suc (suc (suc (suc (suc zero))))) rd x z h = tt
immediates_spell w (suc (suc (suc (suc (suc (suc zero)))))) rd x z h = h
immediates_spell w (suc (suc (suc (suc (suc (suc (suc zero))))))) rd x z h = h
immediates_spell w (suc (suc (suc (suc (suc (suc (suc (suc n)))))))) rd x z h = tt

operations_spell : (w f3 rd x y : ℕ) → Lays (R 0b0110011 rd f3 x y 0) w → Spells w (operations f3 rd x y)
unfolding Spells layout
operations_spell w zero rd x y h = h
operations_spell w (suc zero) rd x y h = h
operations_spell w (suc (suc zero)) rd x y h = h
operations_spell w (suc (suc (suc zero))) rd x y h = h
operations_spell w (suc (suc (suc (suc zero)))) rd x y h = h
operations_spell w (suc (suc (suc (suc (suc zero))))) rd x y h = h
operations_spell w (suc (suc (suc (suc (suc (suc zero)))))) rd x y h = h
operations_spell w (suc (suc (suc (suc (suc (suc (suc zero))))))) rd x y h = h
operations_spell w (suc (suc (suc (suc (suc (suc (suc (suc n)))))))) rd x y h = tt

multiplications_spell : (w f3 rd x y : ℕ) → Lays (R 0b0110011 rd f3 x y 1) w → Spells w (multiplications f3 rd x y)
unfolding Spells layout
multiplications_spell w zero rd x y h = h
multiplications_spell w (suc zero) rd x y h = h
multiplications_spell w (suc (suc zero)) rd x y h = h
multiplications_spell w (suc (suc (suc zero))) rd x y h = h
multiplications_spell w (suc (suc (suc (suc zero)))) rd x y h = h
multiplications_spell w (suc (suc (suc (suc (suc zero))))) rd x y h = h
multiplications_spell w (suc (suc (suc (suc (suc (suc zero)))))) rd x y h = h
multiplications_spell w (suc (suc (suc (suc (suc (suc (suc zero))))))) rd x y h = h
multiplications_spell w (suc (suc (suc (suc (suc (suc (suc (suc n)))))))) rd x y h = tt

if_spells : (w a n : ℕ) (x y : Option Inst) → (a ≡ n → Spells w x) → (a ≢ n → Spells w y) → Spells w (if a == n then x else y)
if_spells w a n x y p q = elim (eqb_tells a n) [ inl (e, h) ↦ rw e (p h) | inr (e, h) ↦ rw e (q h) ]

shifts_spell : (w f3 f7 rd x n : ℕ) → f3 < 8 → f3 % 4 ≡ 1 → Lays (Shift 0b0010011 rd f3 x (pos n) f7) w → Spells w (shifts f3 f7 rd x n)
unfolding Spells layout shifts
shifts_spell w f3 f7 rd x n small one lay =
    if_spells w f3 1 _ _
    (λ e. if_spells w f7 0 _ _ (λ g. rw (e, g) at lay) (λ g. tt))
    (λ e. let five : f3 ≡ 5 = omega arith in
    if_spells w f7 0 _ _ (λ g. rw (five, g) at lay) (λ g. if_spells w f7 32 _ _ (λ k. rw (five, k) at lay) (λ k. tt)))

registers_only_spell : (w f3 f7 rd x y : ℕ) → Lays (R 0b0110011 rd f3 x y f7) w → Spells w (registers_only f3 f7 rd x y)
unfolding Spells layout registers_only
registers_only_spell w f3 f7 rd x y lay =
    if_spells w f7 0 _ _ (λ e. operations_spell w f3 rd x y (rw e at lay))
    (λ e. if_spells w f7 1 _ _ (λ g. multiplications_spell w f3 rd x y (rw g at lay))
    (λ g. if_spells w f7 32 _ _ (λ k. if_spells w f3 0 _ _ (λ l. rw (k, l) at lay) (λ l. if_spells w f3 5 _ _ (λ m. rw (k, m) at lay) (λ m. tt)))
    (λ k. tt)))

system_spells : (w : ℕ) → w ≡ 0x73 → Spells w (Some Ecall)
unfolding Spells layout
system_spells w e = rw e (search rules)

lui_spells : (w rd : ℕ) (z : ℤ) → Lays (U 0b0110111 rd z) w → Spells w (Some (Lui rd z))
unfolding Spells layout
lui_spells w rd z h = h

auipc_spells : (w rd : ℕ) (z : ℤ) → Lays (U 0b0010111 rd z) w → Spells w (Some (Auipc rd z))
unfolding Spells layout
auipc_spells w rd z h = h

jal_spells : (w rd : ℕ) (z : ℤ) → Lays (J 0b1101111 rd z) w → Spells w (Some (Jal rd z))
unfolding Spells layout
jal_spells w rd z h = h

jalr_spells : (w f3 rd x : ℕ) (z : ℤ) → f3 ≡ 0 → Lays (I 0b1100111 rd f3 x z) w → Spells w (Some (Jalr rd x z))
unfolding Spells layout
jalr_spells w f3 rd x z e h = rw e at h

nothing_spells : (w : ℕ) → Spells w None
unfolding Spells
nothing_spells w = tt

fields_spell : (w : ℕ) → w < 2 ^ 32 → Spells w (by_fields w)
unfolding by_fields
fields_spell w h =
    let op = field 0 7 w in
    let f3 = field 12 3 w in
    let f7 = field 25 7 w in
    if_spells w op 0b0110111 _ _ (λ e. lui_spells w _ _ (lays_u w 0b0110111 h e))
    (λ n0. if_spells w op 0b0010111 _ _ (λ e. auipc_spells w _ _ (lays_u w 0b0010111 h e))
    (λ n1. if_spells w op 0b1101111 _ _ (λ e. jal_spells w _ _ (lays_j w 0b1101111 h e))
    (λ n2. if_spells w op 0b1100111 _ _ (λ e. if_spells w f3 0 _ _ (λ g. jalr_spells w f3 _ _ _ g (lays_i w 0b1100111 h e)) (λ g. nothing_spells w))
    (λ n3. if_spells w op 0b1100011 _ _ (λ e. branches_spell w f3 _ _ _ (lays_b w 0b1100011 h e))
    (λ n4. if_spells w op 0b0000011 _ _ (λ e. loads_spell w f3 _ _ _ (lays_i w 0b0000011 h e))
    (λ n5. if_spells w op 0b0100011 _ _ (λ e. stores_spell w f3 _ _ _ (lays_s w 0b0100011 h e))
    (λ n6. if_spells w op 0b0010011 _ _ (λ e. if_spells w (f3 % 4) 1 _ _ (λ g. shifts_spell w f3 f7 _ _ _ (omega arith) g (lays_shift w 0b0010011 f7 h e refl)) (λ g. immediates_spell w f3 _ _ _ (lays_i w 0b0010011 h e)))
    (λ n7. if_spells w op 0b0110011 _ _ (λ e. registers_only_spell w f3 f7 _ _ _ (lays_r w 0b0110011 f7 h e refl))
    (λ n8. if_spells w w 0x73 _ _ (λ e. system_spells w e) (λ e. nothing_spells w))))))))))

-- what is found is in range, and has this word
pub encoded_fields : (w : ℕ) (i : Inst) → w < 2 ^ 32 → by_fields w ≡ Some i → InRange i × (encoded i ≡ w)
unfolding InRange encoded Spells
encoded_fields w i h e = rw e at (fields_spell w h)

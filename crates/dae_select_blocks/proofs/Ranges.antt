-- Every instruction of a block has fields that its word can hold, and words of such instructions are code.
use Rattle.std.proofs.Common.{◌≡◌, ℕ, ◌+◌, ◌-◌, ◌*◌, ◌/◌, ◌%◌, ◌^◌, ◌<◌, Bool, true, false, List, [], ◌∷◌, ◌++◌, map, length, Some, refl, arith, pos, negsuc, append_assoc, length-append, Option, None}
use Rattle.std.specs.Prelude.{nat_lt, nat_eq, if◌then◌else◌, slice_get}
use Rattle.std.specs.List.{AllByRecursion}
use Rattle.std.proofs.lemmas.Int.{ints}
use Rattle.std.proofs.lemmas.Bool.Decides.{nat_tests}
use Rattle.dae_base.specs.Words.{word, signed}
use Rattle.dae_encode.specs.Spelling.{InRange, layout, IsSigned, encoded}
use Rattle.dae_encode.proofs.Laws.{decode_encoded}
use Rattle.dae_encode.specs.declared.Inst.{Inst}
use Rattle.dae_encode.specs.declared.Inst.TheVariants.{Lui, Auipc, Jal, Jalr, Lw, Sw, Addi, Add}
use Rattle.dae_ir.specs.declared.form.Operand.{Operand}
use Rattle.dae_ir.specs.declared.form.Operand.TheVariants.{Variable, Number}
use Rattle.dae_ir.specs.declared.stream.Failure.{Failure}
use Rattle.dae_ir.specs.declared.stream.Failure.TheVariants.{OutOfBounds, OutOfRoom}
use Rattle.dae_ir.specs.Deeds.{failure_code}
use Rattle.dae_select_walks.specs.Layout.{CodeAt}
use Rattle.dae_select_walks.specs.declared.Home.{Home}
use Rattle.dae_select_walks.specs.declared.Home.TheVariants.{Register, Slot}
use Rattle.dae_select_walks.specs.Homes.{IsHome, slot_at, number_key, resident_register}
use Rattle.dae_select_blocks.specs.Blocks.{upper, lower, is_immediate, number_code, load_code, store_code, register_or, fetch_home, fetch, move_code, keep, jump_by, near_offset, jump_over, jump_back, fetch_number}
use Rattle.dae_select_blocks.proofs.Halves.{word_upper}
use Rattle.dae_select_blocks.proofs.Agreement.{home_register}

-- ---- words of instructions that fit are code, wherever they stand

spot : (before' rest : List ℕ) (w : ℕ) → slice_get (before' ++ w ∷ rest) (length before') ≡ Some w
spot [] rest w = refl
spot (b ∷ before') rest w = spot before' rest w

pub words_are_code : (is : List Inst) (before' rest : List ℕ) → AllByRecursion InRange is → CodeAt (before' ++ (map encoded is ++ rest)) (length before') is
words_are_code [] before' rest h = tt
words_are_code (i ∷ is) before' rest h =
    let more = words_are_code is (before' ++ encoded i ∷ []) rest h.1 in
    let same : (before' ++ encoded i ∷ []) ++ (map encoded is ++ rest) ≡ before' ++ (encoded i ∷ (map encoded is ++ rest)) = append_assoc before' (encoded i ∷ []) (map encoded is ++ rest) in
    let long : length (before' ++ encoded i ∷ []) ≡ length before' + 1 = length-append before' (encoded i ∷ []) in
    (encoded i, spot before' (map encoded is ++ rest) (encoded i), decode_encoded i h.0, (rw (same, long) at more))

-- ---- immediates

pub failure_small : (failure : Failure) → failure_code failure < 2048
failure_small OutOfBounds = omega arith
failure_small OutOfRoom = omega arith

signed_fits : (x : ℕ) → x < 2 ^ 32 → IsSigned 32 (signed x)
signed_fits x h = omega (arith, ints)

upper_fits : (w : ℕ) → IsSigned 32 (upper w)
unfolding upper
upper_fits w = signed_fits ((w + 2 ^ 11) / 2 ^ 12 * 2 ^ 12 % 2 ^ 32) (omega arith)

upper_even : (w : ℕ) → word (upper w) % 2 ^ 12 ≡ 0
upper_even w = rw (word_upper w) (omega arith)

lower_by : (n : ℕ) → n < 2 ^ 12 → (b : Bool) → nat_lt n (2 ^ 11) ≡ b → IsSigned 12 (if b then pos n else negsuc (2 ^ 12 - 1 - n))
lower_by n h true t = grind (arith, nat_tests, ints)
lower_by n h false t = grind (arith, nat_tests, ints)

pub lower_fits : (w : ℕ) → IsSigned 12 (lower w)
unfolding lower
lower_fits w = lower_by (w % 2 ^ 12) (omega arith) (nat_lt (w % 2 ^ 12) (2 ^ 11)) refl

near_by : (n : ℕ) → n < 2 ^ 21 → n % 2 ≡ 0 → (b : Bool) → nat_lt n (2 ^ 20) ≡ b → IsSigned 21 (if b then pos n else negsuc (2 ^ 21 - 1 - n)) × (word (if b then pos n else negsuc (2 ^ 21 - 1 - n)) % 2 ≡ 0)
near_by n h even true t = (grind (arith, nat_tests, ints), omega arith)
near_by n h even false t = (grind (arith, nat_tests, ints), omega arith)

near_fits : (w : ℕ) → w % 4 ≡ 0 → IsSigned 21 (near_offset w) × (word (near_offset w) % 2 ≡ 0)
unfolding near_offset
near_fits w h = near_by (w % 2 ^ 21) (omega arith) (omega arith) (nat_lt (w % 2 ^ 21) (2 ^ 20)) refl

small_fits : (n : ℕ) → n < 2 ^ 11 → IsSigned 12 (pos n)
small_fits n h = omega (arith, ints)

-- ---- instructions

pub lui_fits : (r w : ℕ) → r < 32 → InRange (Lui r (upper w))
unfolding InRange layout
lui_fits r w h = (h, (upper_fits w, upper_even w))

pub auipc_fits : (r w : ℕ) → r < 32 → InRange (Auipc r (upper w))
unfolding InRange layout
auipc_fits r w h = (h, (upper_fits w, upper_even w))

jal_fits : (r w : ℕ) → r < 32 → w % 4 ≡ 0 → InRange (Jal r (near_offset w))
unfolding InRange layout
jal_fits r w h even = (h, near_fits w even)

pub jalr_fits : (r b w : ℕ) → r < 32 → b < 32 → InRange (Jalr r b (lower w))
unfolding InRange layout
jalr_fits r b w h k = (h, k, lower_fits w)

pub addi_fits : (r b w : ℕ) → r < 32 → b < 32 → InRange (Addi r b (lower w))
unfolding InRange layout
addi_fits r b w h k = (h, k, lower_fits w)

pub addi_small : (r b n : ℕ) → r < 32 → b < 32 → n < 2 ^ 11 → InRange (Addi r b (pos n))
unfolding InRange layout
addi_small r b n h k l = (h, k, small_fits n l)

pub lw_fits : (r b w : ℕ) → r < 32 → b < 32 → InRange (Lw r b (lower w))
unfolding InRange layout
lw_fits r b w h k = (h, k, lower_fits w)

pub lw_small : (r b n : ℕ) → r < 32 → b < 32 → n < 2 ^ 11 → InRange (Lw r b (pos n))
unfolding InRange layout
lw_small r b n h k l = (h, k, small_fits n l)

pub sw_fits : (b r w : ℕ) → b < 32 → r < 32 → InRange (Sw b r (lower w))
unfolding InRange layout
sw_fits b r w h k = (h, k, lower_fits w)

pub sw_small : (b r n : ℕ) → b < 32 → r < 32 → n < 2 ^ 11 → InRange (Sw b r (pos n))
unfolding InRange layout
sw_small b r n h k l = (h, k, small_fits n l)

pub add_fits : (t x y : ℕ) → t < 32 → x < 32 → y < 32 → InRange (Add t x y)
unfolding InRange layout
add_fits t x y a b c = (a, b, c)

-- ---- lists

abbrev pub AllFit : List Inst → Type 0
AllFit is = AllByRecursion InRange is

pub fit_append : (is js : List Inst) → AllFit is → AllFit js → AllFit (is ++ js)
fit_append [] js h k = k
fit_append (i ∷ is) js h k = (h.0, fit_append is js h.1 k)

pub fit_either : (b : Bool) (x y : List Inst) → (b ≡ true → AllFit x) → (b ≡ false → AllFit y) → AllFit (if b then x else y)
fit_either true x y h k = h refl
fit_either false x y h k = k refl

pub number_fits : (r n : ℕ) → r < 32 → AllFit (number_code r n)
number_fits r n h =
    fit_either (is_immediate n) (Addi r 0 (lower n) ∷ []) (if nat_eq (n % 2 ^ 12) 0 then Lui r (upper n) ∷ [] else Lui r (upper n) ∷ (Addi r r (lower n) ∷ []))
    (λ e. (addi_fits r 0 n h (omega arith), tt))
    (λ e. fit_either (nat_eq (n % 2 ^ 12) 0) (Lui r (upper n) ∷ []) (Lui r (upper n) ∷ (Addi r r (lower n) ∷ [])) (λ e. (lui_fits r n h, tt)) (λ e. (lui_fits r n h, (addi_fits r r n h h, tt))))

pub load_fits : (r i : ℕ) → r < 32 → AllFit (load_code r i)
load_fits r i h =
    fit_either (nat_lt i 512) (Lw r 2 (pos (4 * i)) ∷ []) (Lui r (upper (4 * i)) ∷ (Add r r 2 ∷ (Lw r r (lower (4 * i)) ∷ [])))
    (λ e. (lw_small r 2 (4 * i) h (omega arith) (grind (arith, nat_tests)), tt)) (λ e. (lui_fits r (4 * i) h, (add_fits r r 2 h h (omega arith), (lw_fits r r (4 * i) h h, tt))))

pub store_fits : (r i : ℕ) → r < 32 → AllFit (store_code r i)
store_fits r i h =
    fit_either (nat_lt i 512) (Sw 2 r (pos (4 * i)) ∷ []) (Lui 7 (upper (4 * i)) ∷ (Add 7 7 2 ∷ (Sw 7 r (lower (4 * i)) ∷ [])))
    (λ e. (sw_small 2 r (4 * i) (omega arith) h (grind (arith, nat_tests)), tt)) (λ e. (lui_fits 7 (4 * i) (omega arith), (add_fits 7 7 2 (omega arith) (omega arith) (omega arith), (sw_fits 7 r (4 * i) (omega arith) h, tt))))

pub register_fits : (n r : ℕ) (h : Home) → IsHome n h → r < 32 → register_or r h < 32
register_fits n r (Register g) is l = (let k = home_register g is in omega arith)
register_fits n r (Slot i) is l = l

pub fetch_fits : (n : ℕ) (home : ℕ → Home) (r : ℕ) (x : Operand) → r < 32 → AllFit (fetch home r x)
fetch_fits n home r (Variable v) h = by (home v)
  where
    by : (g : Home) → AllFit (fetch_home r g)
    by (Register q) = tt
    by (Slot i) = load_fits r (slot_at i) h
fetch_fits n home r (Number k) h = fit_either (nat_eq k 0) [] (fetch_number r k (resident_register (home (number_key k)))) (λ e. tt) (λ e. by (resident_register (home (number_key k))))
  where
    by : (o : Option ℕ) → AllFit (fetch_number r k o)
    by None = number_fits r k h
    by (Some q) = tt

pub move_fit : (home : ℕ → Home) → ((r v : ℕ) → r < 32 → register_or r (home v) < 32) → (t : ℕ) (x : Operand) → t < 32 → AllFit (move_code home t x)
move_fit home low t (Variable v) h = fit_append _ _ (fetch_fits 0 home 5 (Variable v) (omega arith)) (addi_small t (register_or 5 (home v)) 0 h (low 5 v (omega arith)) (omega arith), tt)
move_fit home low t (Number k) h =
    fit_either (is_immediate k) (Addi t 0 (lower k) ∷ []) (Lui 5 (upper k) ∷ (Addi t 5 (lower k) ∷ []))
    (λ e. (addi_fits t 0 k h (omega arith), tt)) (λ e. (lui_fits 5 k (omega arith), (addi_fits t 5 k h (omega arith), tt)))

pub move_fits : (n : ℕ) (home : ℕ → Home) → ((v : ℕ) → IsHome n (home v)) → (t : ℕ) (x : Operand) → t < 32 → AllFit (move_code home t x)
move_fits n home good t x h = move_fit home (λ r v l. register_fits n r (home v) (good v) l) t x h

pub keep_fits : (h : Home) → AllFit (keep h)
keep_fits (Register g) = tt
keep_fits (Slot i) = store_fits 5 (slot_at i) (omega arith)

pub jump_fits : (bytes : ℕ) → AllFit (jump_by bytes)
jump_fits bytes = (auipc_fits 5 bytes (omega arith), (jalr_fits 0 5 bytes (omega arith) (omega arith), tt))

pub over_fits : (short : Bool) (n : ℕ) → AllFit (jump_over short n)
over_fits true n = (jal_fits 0 (4 * (n + 1)) (omega arith) (omega arith), tt)
over_fits false n = jump_fits (4 * (n + 2))

pub back_fits : (short : Bool) (n : ℕ) → AllFit (jump_back short n)
back_fits true n = (jal_fits 0 ((2 ^ 32 - 4 * n % 2 ^ 32) % 2 ^ 32) (omega arith) (omega arith), tt)
back_fits false n = jump_fits ((2 ^ 32 - 4 * n % 2 ^ 32) % 2 ^ 32)

-- One instruction of a side: it is granted, and what it leaves is stood for.
use Rattle.std.proofs.Common.{◌≡◌, ℕ, zero, suc, ◌<◌, ◌≤◌, ◌^◌, ◌⊎◌, inl, inr, Bool, true, false, ◌&&◌, ◌||◌, List, [], ◌∷◌, length, map, refl, ap, sym, ◌∙◌, subst, arith}
use Rattle.std.specs.Prelude.{Some, None, nat_lt, nat_le, ◌==◌, if◌then◌else◌, slice_index}
use Rattle.std.proofs.lemmas.Bool.Decides.{nat_tests}
use Rattle.dae_base.proofs.Laws.{and_true, if_some_is, map_some_is, and_then_some, written_length, stored_bytes}
use Rattle.dae_base.specs.declared.Side.{Side}
use Rattle.dae_base.specs.declared.Side.TheVariants.{A, E}
use Rattle.dae_base.specs.declared.Width.{Width}
use Rattle.dae_base.specs.declared.LoadKind.{LoadKind}
use Rattle.dae_base.specs.Words.{plus, size, width_of, loaded, stored, low_bytes}
use Rattle.dae_base.specs.Texts.{byte_text, decimal_text, hex_text}
use Rattle.dae_base.specs.declared.Signedness.TheVariants as signedness
use Rattle.dae_encode.specs.declared.QueueUse.{QueueUse}
use Rattle.dae_encode.specs.declared.QueueUse.TheVariants.{Nothing, Take, Push, Load, StoreAddress}
use Rattle.dae_encode.specs.declared.InstructionForm.{InstructionForm}
use Rattle.dae_encode.specs.declared.InstructionForm.TheVariants.{Computes, Loads, Stores, Calls}
use Rattle.dae_encode.specs.declared.Inst.{Inst}
use Rattle.dae_encode.specs.declared.Inst.TheVariants.{Slti, Sltiu, Lb, Lh, Lw, Lbu, Lhu, Sb, Sh, Sw, Ecall}
use Rattle.dae_encode.specs.declared.Halt.{Halt}
use Rattle.dae_encode.specs.declared.Halt.TheVariants.{Plain, Status, Trap}
use Rattle.dae_encode.specs.Instructions.{form, value, next}
use Rattle.dae_encode.specs.Spelling.{InRange, layout}
use Rattle.dae_encode.specs.Uses.{queue_use}
use Rattle.dae_encode.specs.Processor.{Processor, After as Came, operand, address, is_shared, is_within, is_good_private, early_fault, put_word, with_result, finish, called}
use Rattle.dae_core.specs.Queues.{Queues, peek, commit}
use Rattle.dae_ranges.specs.declared.Range.{Range}
use Rattle.dae_ranges.specs.Ranges.{Has, is_single, each, shifted, loaded_range}
use Rattle.dae_ranges.proofs.Laws.{each_has, single_is, shifted_has}
use Rattle.dae_guard.specs.Sets.{Waiting}
use Rattle.dae_guard.specs.Nodes.{range_at, source, is_plain, with_range}
use Rattle.dae_guard.specs.Waiting.{allows, given, after_use}
use Rattle.dae_guard.specs.Moves.{Terms, private, MoveOutcome, outcomes_by, shape, SideAfter, on, did}
use Rattle.dae_guard.specs.StandsFor.{Registers, IsSide, Wait}
use Rattle.dae_guard.proofs.Waits.{given_has, PutsIn, StoresCounted, used}
use Rattle.dae_guard.proofs.Memories.{loaded_has}
use Rattle.dae_guard.proofs.Values.{other, imm_12}
use Rattle.dae_guard.proofs.Sides.{reads, holds_plain, put_result, AnyComes, comes}

-- one of these stands for the processor and the queues
abbrev pub AnyAfter : ℕ → List SideAfter → Processor → Queues → Type 0
AnyAfter size [] p q = ⊥
AnyAfter size (m ∷ ms) p q = (IsSide size m.0 p × Wait m.1 q) ⊎ AnyAfter size ms p q

-- what the instruction comes to
pub record Does (t : Terms) (side : Side) (p : Processor) (qs : Queues) (u : QueueUse) (i : Inst) (f : InstructionForm) (ms : List SideAfter) : Type 0 where
  pub quiet : early_fault side t.setup.memory p u f ≡ None
  pub came : Came
  pub does : finish side p u i f (peek u qs) ≡ Some came
  pub stands : AnyAfter (private t side) ms came.0 (commit u (put_word p u i f) qs)

-- the offset of an address is a word
pub data OffsetFits : InstructionForm → Type 0 where
  computes : {rd x y : ℕ} → OffsetFits (Computes rd x y)
  loads : {kind : LoadKind} {rd base offset : ℕ} → offset < 2 ^ 32 → OffsetFits (Loads kind rd base offset)
  stores : {width : Width} {base source offset : ℕ} → offset < 2 ^ 32 → OffsetFits (Stores width base source offset)
  calls : OffsetFits Calls

-- an immediate stands for no register
second_own : (i : Inst) (rd first second w : ℕ) → form i ≡ Computes rd first second → is_plain second ≡ true → other i w ≡ w
unfolding form
second_own (Slti a x imm) rd first second w e h = let z : second ≡ 0 = cc in absurd (let k : is_plain 0 ≡ true = rw z at h in cc)
second_own (Sltiu a x imm) rd first second w e h = let z : second ≡ 0 = cc in absurd (let k : is_plain 0 ≡ true = rw z at h in cc)
second_own i rd first second w e h = refl

-- what is put in is worked out without what a take gives, and no access both takes and puts
put_same : (u : QueueUse) (qs : Queues) (r : Range) (f : ℕ → ℕ) → Has r (f (peek u qs)) → PutsIn u r (f 0)
put_same Nothing qs r f h = tt
put_same (Take k) qs r f h = tt
put_same (Push k) qs r f h = h
put_same (Load k kind) qs r f h = h
put_same (StoreAddress width) qs r f h = h

shared_gives : (u : QueueUse) (qs : Queues) → is_shared u ≡ true → peek u qs ≡ 0
shared_gives Nothing qs h = cc
shared_gives (Take k) qs h = cc
shared_gives (Push k) qs h = cc
shared_gives (Load k kind) qs h = refl
shared_gives (StoreAddress width) qs h = refl

-- a base that is no queue register reads what it holds
base_same : (p : Processor) (w base : ℕ) → nat_le 28 base ≡ false → operand p 0 base ≡ operand p w base
base_same p w base h = let e : nat_lt base 28 ≡ true = grind (arith, nat_tests) in rw e refl

module _ (t : Terms) (side : Side) (rs : List Range) (c : ℕ) (q : Waiting) (p : Processor) (qs : Queues) (u : QueueUse) (i : Inst)
    (stands : IsSide (private t side) (on c rs) p) (wait : Wait q qs) (counted : StoresCounted qs) (allow : allows t.setup.depths u q ≡ true) (inside : InRange i) where
  gave : Has (given u q) (peek u qs)
  gave = given_has t.setup.depths u q qs wait allow

  read : (r : ℕ) → Has (source rs (given u q) r) (operand p (peek u qs) r)
  read r = reads rs p (given u q) (peek u qs) r stands.registers gave

  counts : p.counter ≡ c
  counts = stands.at.1

  -- what stands for the processor after a result and a counter
  side_after : (rs' : List Range) (rd x k : ℕ) (v : Range) → Registers rs' p.registers → Has v x → IsSide (private t side) (on k (with_range rd v rs')) (record p { registers = with_result rd x p.registers; counter = k })
  side_after rs' rd x k v h l = record { at = (stands.at.0, refl); registers = put_result rs' p.registers rd x v h l; size = stands.size; bytes = stands.bytes }

  side_on : (k : ℕ) → IsSide (private t side) (on k rs) (record p { counter = k })
  side_on k = record { at = (stands.at.0, refl); registers = stands.registers; size = stands.size; bytes = stands.bytes }

  any_after : (rd x x' k : ℕ) (os : List MoveOutcome) → ((r : Range) → Has r x → PutsIn u r x') → AnyComes rs p.registers x k os
      → AnyAfter (private t side) (map (λ (o : MoveOutcome). (on o.counter (with_range rd o.value o.registers), after_use u o.value q)) os) (record p { registers = with_result rd x p.registers; counter = k }) (commit u x' qs)
  any_after rd x x' k [] put h = absurd h
  any_after rd x x' k (o ∷ os) put (inl h) = inl (
    subst (λ (n : ℕ). IsSide (private t side) (on n (with_range rd o.value o.registers)) (record p { registers = with_result rd x p.registers; counter = k })) (sym h.counter) (side_after o.registers rd x k o.value h.registers h.value),
    used u q qs o.value x' wait counted (put o.value h.value),
  )
  any_after rd x x' k (o ∷ os) put (inr h) = inr (any_after rd x x' k os put h)

  pub does_computes : (rd first second : ℕ) (ms : List SideAfter) → form i ≡ Computes rd first second → did t side rs c q u i (Computes rd first second) ≡ Some ms → Does t side p qs u i (Computes rd first second) ms
  unfolding early_fault put_word finish
  does_computes rd first second ms own h =
      let m = map_some_is (map (λ (o : MoveOutcome). (on o.counter (with_range rd o.value o.registers), after_use u o.value q))) (outcomes_by (shape i) i c first second (source rs (given u q) first) (source rs (given u q) second) rs) ms h in
      let v = operand p (peek u qs) first in
      let w = operand p (peek u qs) second in
      let k = comes i c first second (source rs (given u q) first) (source rs (given u q) second) rs p.registers v w m.0 inside stands.registers (read first) (read second)
      (holds_plain p (peek u qs) first) (holds_plain p (peek u qs) second) (second_own i rd first second w own) m.1 in
      let x' = value i p.counter (operand p 0 first) (operand p 0 second) in
      let same : value i p.counter v w ≡ value i c v w = ap (λ n. value i n v w) counts in
      let to : next i p.counter v w ≡ next i c v w = ap (λ n. next i n v w) counts in
      record {
        quiet = refl;
        came = (record p { registers = with_result rd (value i p.counter v w) p.registers; counter = next i p.counter v w }, []);
        does = refl;
        stands = subst (λ (ms : List SideAfter). AnyAfter (private t side) ms (record p { registers = with_result rd (value i p.counter v w) p.registers; counter = next i p.counter v w }) (commit u x' qs)) m.2
            (rw (same, to) (any_after rd (value i c v w) x' (next i c v w) m.0 (λ r l. put_same u qs r (λ g. value i p.counter (operand p g first) (operand p g second)) (rw same l)) k));
      }

  addressed : (base offset : ℕ) (addr : Range) → offset < 2 ^ 32 → shifted offset (source rs (given u q) base) ≡ Some addr → Has addr (address p (peek u qs) base offset)
  addressed base offset addr l h = shifted_has offset (source rs (given u q) base) addr (operand p (peek u qs) base) l h (read base)

  -- a good private address has no early fault
  no_fault : (width : Width) (base offset : ℕ) → is_good_private p width (address p (peek u qs) base offset) ≡ true → (nat_le 28 base || is_good_private p width (address p 0 base offset)) ≡ true
  no_fault width base offset h = by (nat_le 28 base) refl where
    by : (b : Bool) → nat_le 28 base ≡ b → (b || is_good_private p width (address p 0 base offset)) ≡ true
    by true e = refl
    by false e = rw (base_same p (peek u qs) base e) h

  is_good : (width : Width) (a : ℕ) → is_within 0 (private t side) width a ≡ true → is_good_private p width a ≡ true
  is_good width a h = rw stands.size h

  pub does_loads : (kind : LoadKind) (rd base offset : ℕ) (ms : List SideAfter) → offset < 2 ^ 32 → did t side rs c q u i (Loads kind rd base offset) ≡ Some ms → Does t side p qs u i (Loads kind rd base offset) ms
  unfolding early_fault put_word finish
  does_loads kind rd base offset ms l h =
      let a = and_then_some _ (shifted offset (source rs (given u q) base)) ms h in
      by (is_shared u) refl a.0 (addressed base offset a.0 l a.1) a.2
    where
      to : plus p.counter 4 ≡ plus c 4
      to = ap (λ n. plus n 4) counts

      by : (b : Bool) → is_shared u ≡ b → (addr : Range) → Has addr (address p (peek u qs) base offset)
          → (if b then (if each (is_within 16 t.setup.memory (width_of kind)) addr then Some ((on (plus c 4) rs, after_use u addr q) ∷ []) else None)
          else (if each (is_within 0 (private t side) (width_of kind)) addr
          then Some ((on (plus c 4) (with_range rd (loaded_range kind) rs), after_use u (loaded_range kind) q) ∷ []) else None)) ≡ Some ms
          → Does t side p qs u i (Loads kind rd base offset) ms
      by true e addr x g =
          let k = if_some_is (each (is_within 16 t.setup.memory (width_of kind)) addr) (Some ((on (plus c 4) rs, after_use u addr q) ∷ [])) ms g in
          let good = each_has (is_within 16 t.setup.memory (width_of kind)) addr (address p (peek u qs) base offset) k.0 x in
          let zero = shared_gives u qs e in
          let good' : is_within 16 t.setup.memory (width_of kind) (address p 0 base offset) ≡ true = rw zero at good in
          let is : (on (plus c 4) rs, after_use u addr q) ∷ [] ≡ ms = cc in
          record {
            quiet = rw (e, good') refl;
            came = (record p { counter = plus p.counter 4 }, []);
            does = rw e refl;
            stands = subst (λ (ms : List SideAfter). AnyAfter (private t side) ms (record p { counter = plus p.counter 4 }) (commit u (put_word p u i (Loads kind rd base offset)) qs)) is
                (rw (to, e) (inl (side_on (plus c 4), used u q qs addr (address p 0 base offset) wait counted (put_same u qs addr (λ g. address p g base offset) x))));
          }
      by false e addr x g =
          let k = if_some_is (each (is_within 0 (private t side) (width_of kind)) addr) (Some ((on (plus c 4) (with_range rd (loaded_range kind) rs), after_use u (loaded_range kind) q) ∷ [])) ms g in
          let good = is_good (width_of kind) (address p (peek u qs) base offset) (each_has (is_within 0 (private t side) (width_of kind)) addr (address p (peek u qs) base offset) k.0 x) in
          let is : (on (plus c 4) (with_range rd (loaded_range kind) rs), after_use u (loaded_range kind) q) ∷ [] ≡ ms = cc in
          let found = loaded_has kind (address p (peek u qs) base offset) p.private stands.bytes in
          let put = put_same u qs (loaded_range kind) (λ g. if is_good_private p (width_of kind) (address p g base offset) then loaded kind (address p g base offset) p.private else 0) (rw good found) in
          let next' : Processor = record p { registers = with_result rd (loaded kind (address p (peek u qs) base offset) p.private) p.registers; counter = plus p.counter 4 } in
          record {
            quiet = rw (e, no_fault (width_of kind) base offset good) refl;
            came = (next', []);
            does = rw (e, good) refl;
            stands = subst (λ (ms : List SideAfter). AnyAfter (private t side) ms next' (commit u (put_word p u i (Loads kind rd base offset)) qs)) is
                (rw (to, e) (inl (side_after rs rd (loaded kind (address p (peek u qs) base offset) p.private) (plus c 4) (loaded_range kind) stands.registers found, used u q qs (loaded_range kind) _ wait counted put)));
          }

  pub does_stores : (width : Width) (base second offset : ℕ) (ms : List SideAfter) → offset < 2 ^ 32 → did t side rs c q u i (Stores width base second offset) ≡ Some ms → Does t side p qs u i (Stores width base second offset) ms
  unfolding early_fault put_word finish
  does_stores width base second offset ms l h =
      let a = and_then_some _ (shifted offset (source rs (given u q) base)) ms h in
      by (is_shared u) refl a.0 (addressed base offset a.0 l a.1) a.2
    where
      to : plus p.counter 4 ≡ plus c 4
      to = ap (λ n. plus n 4) counts

      by : (b : Bool) → is_shared u ≡ b → (addr : Range) → Has addr (address p (peek u qs) base offset)
          → (if b then (if each (is_within 16 t.setup.memory width) addr then Some ((on (plus c 4) rs, after_use u addr q) ∷ []) else None)
          else (if each (is_within 0 (private t side) width) addr then Some ((on (plus c 4) rs, after_use u addr q) ∷ []) else None)) ≡ Some ms
          → Does t side p qs u i (Stores width base second offset) ms
      by true e addr x g =
          let k = if_some_is (each (is_within 16 t.setup.memory width) addr) (Some ((on (plus c 4) rs, after_use u addr q) ∷ [])) ms g in
          let good = each_has (is_within 16 t.setup.memory width) addr (address p (peek u qs) base offset) k.0 x in
          let zero = shared_gives u qs e in
          let good' : is_within 16 t.setup.memory width (address p 0 base offset) ≡ true = rw zero at good in
          let is : (on (plus c 4) rs, after_use u addr q) ∷ [] ≡ ms = cc in
          record {
            quiet = rw (e, good') refl;
            came = (record p { counter = plus p.counter 4 }, []);
            does = rw e refl;
            stands = subst (λ (ms : List SideAfter). AnyAfter (private t side) ms (record p { counter = plus p.counter 4 }) (commit u (address p 0 base offset) qs)) is
                (rw to (inl (side_on (plus c 4), used u q qs addr (address p 0 base offset) wait counted (put_same u qs addr (λ g. address p g base offset) x))));
          }
      by false e addr x g =
          let k = if_some_is (each (is_within 0 (private t side) width) addr) (Some ((on (plus c 4) rs, after_use u addr q) ∷ [])) ms g in
          let good = is_good width (address p (peek u qs) base offset) (each_has (is_within 0 (private t side) width) addr (address p (peek u qs) base offset) k.0 x) in
          let is : (on (plus c 4) rs, after_use u addr q) ∷ [] ≡ ms = cc in
          let bytes = stored width (address p (peek u qs) base offset) (operand p (peek u qs) second) p.private in
          let next' : Processor = record p { counter = plus p.counter 4; private = bytes } in
          let size' : length bytes ≡ private t side = written_length (low_bytes (size width) (operand p (peek u qs) second)) (address p (peek u qs) base offset) p.private ∙ stands.size in
          record {
            quiet = rw (e, no_fault width base offset good) refl;
            came = (next', []);
            does = rw (e, good) refl;
            stands = subst (λ (ms : List SideAfter). AnyAfter (private t side) ms next' (commit u (address p 0 base offset) qs)) is
                (inl (
                  record { at = (stands.at.0, to); registers = stands.registers; size = size'; bytes = stored_bytes width (address p (peek u qs) base offset) (operand p (peek u qs) second) p.private stands.bytes },
                  used u q qs addr (address p 0 base offset) wait counted (put_same u qs addr (λ g. address p g base offset) x),
                ));
          }

-- the call of A halts it
pub does_call_a : (t : Terms) (rs : List Range) (c : ℕ) (q : Waiting) (p : Processor) (qs : Queues) (i : Inst) (ms : List SideAfter)
    → IsSide (private t A) (on c rs) p → Wait q qs → did t A rs c q Nothing i Calls ≡ Some ms → Does t A p qs Nothing i Calls ms
unfolding early_fault put_word finish
does_call_a t rs c q p qs i ms stands wait h =
    let is : (record { counter = None; registers = rs }, q) ∷ [] ≡ ms = cc in
    record {
      quiet = refl;
      came = (record p { counter = plus p.counter 4; halt = Some Plain }, []);
      does = refl;
      stands = subst (λ (ms : List SideAfter). AnyAfter (private t A) ms (record p { counter = plus p.counter 4; halt = Some Plain }) qs) is
          (inl (record { at = refl; registers = stands.registers; size = stands.size; bytes = stands.bytes }, wait));
    }

-- what the call of E leaves, by what it is asked
record Called (t : Terms) (rs : List Range) (c : ℕ) (p : Processor) (what : ℕ) : Type 0 where
  pub came : Came
  pub does : called E p what (slice_index p.registers 10) ≡ Some came
  pub stands : IsSide (private t E) (record { counter = (if what == 0 then None else (if what == 5 then None else Some (plus c 4))); registers = rs }) came.0

called_is : (t : Terms) (rs : List Range) (c : ℕ) (p : Processor) → IsSide (private t E) (on c rs) p → (what : ℕ) → what ≤ 5 → Called t rs c p what
called_is t rs c p s what l = by what l
  where
    halted : (h : Halt) → IsSide (private t E) (record { counter = None; registers = rs }) (record p { counter = plus p.counter 4; halt = Some h })
    halted h = record { at = refl; registers = s.registers; size = s.size; bytes = s.bytes }

    goes : IsSide (private t E) (record { counter = Some (plus c 4); registers = rs }) (record p { counter = plus p.counter 4 })
    goes = record { at = (s.at.0, ap (λ n. plus n 4) s.at.1); registers = s.registers; size = s.size; bytes = s.bytes }

    by : (what : ℕ) → what ≤ 5 → Called t rs c p what
    by zero l = record { came = (record p { counter = plus p.counter 4; halt = Some (Status (slice_index p.registers 10)) }, []); does = refl; stands = halted (Status (slice_index p.registers 10)) }
    by (suc zero) l = record { came = (record p { counter = plus p.counter 4 }, byte_text (slice_index p.registers 10)); does = refl; stands = goes }
    by (suc (suc zero)) l = record { came = (record p { counter = plus p.counter 4 }, decimal_text (slice_index p.registers 10) signedness.Signed); does = refl; stands = goes }
    by (suc (suc (suc zero))) l = record { came = (record p { counter = plus p.counter 4 }, decimal_text (slice_index p.registers 10) signedness.Unsigned); does = refl; stands = goes }
    by (suc (suc (suc (suc zero)))) l = record { came = (record p { counter = plus p.counter 4 }, hex_text (slice_index p.registers 10)); does = refl; stands = goes }
    by (suc (suc (suc (suc (suc zero))))) l = record { came = (record p { counter = plus p.counter 4; halt = Some (Trap (slice_index p.registers 10)) }, []); does = refl; stands = halted (Trap (slice_index p.registers 10)) }
    by (suc (suc (suc (suc (suc (suc n)))))) l = absurd (omega arith)

pub does_call_e : (t : Terms) (rs : List Range) (c : ℕ) (q : Waiting) (p : Processor) (qs : Queues) (i : Inst) (ms : List SideAfter)
    → IsSide (private t E) (on c rs) p → Wait q qs → did t E rs c q Nothing i Calls ≡ Some ms → Does t E p qs Nothing i Calls ms
unfolding early_fault put_word finish
does_call_e t rs c q p qs i ms stands wait h =
    let what = range_at rs 17 in
    let after : SideAfter = (record { counter = (if what.lo == 0 then None else (if what.lo == 5 then None else Some (plus c 4))); registers = rs }, q) in
    let k = if_some_is (is_single what && nat_le what.lo 5) (Some (after ∷ [])) ms h in
    let both = and_true (is_single what) (nat_le what.lo 5) k.0 in
    let b1 = both.1 in
    let few : what.lo ≤ 5 = grind (arith, nat_tests) in
    let same : slice_index p.registers 17 ≡ what.lo = single_is what (slice_index p.registers 17) both.0 (stands.registers.each 17 (omega arith) (omega arith)) in
    let m = called_is t rs c p stands what.lo few in
    let is : after ∷ [] ≡ ms = cc in
    let no : nat_lt 5 what.lo ≡ false = grind (arith, nat_tests) in
    record {
      quiet = rw (same, no) refl;
      came = m.came;
      does = rw same m.does;
      stands = subst (λ (ms : List SideAfter). AnyAfter (private t E) ms m.came.0 qs) is (inl (m.stands, wait));
    }

-- ---- any instruction

own_offset : (i : Inst) → InRange i → OffsetFits (form i)
unfolding form InRange layout
own_offset (Lb rd x imm) r = loads (imm_12 imm r.2)
own_offset (Lh rd x imm) r = loads (imm_12 imm r.2)
own_offset (Lw rd x imm) r = loads (imm_12 imm r.2)
own_offset (Lbu rd x imm) r = loads (imm_12 imm r.2)
own_offset (Lhu rd x imm) r = loads (imm_12 imm r.2)
own_offset (Sb x y imm) r = stores (imm_12 imm r.2)
own_offset (Sh x y imm) r = stores (imm_12 imm r.2)
own_offset (Sw x y imm) r = stores (imm_12 imm r.2)
own_offset Ecall r = calls
own_offset i r = computes

offset_small : (i : Inst) (f : InstructionForm) → InRange i → form i ≡ f → OffsetFits f
offset_small i f r e = subst OffsetFits e (own_offset i r)

no_access : (copies : Bool) (side : Side) (u : QueueUse) → queue_use copies side Calls ≡ Some u → u ≡ Nothing
unfolding queue_use
no_access copies side u h = cc

does_calls : (t : Terms) (side : Side) (rs : List Range) (c : ℕ) (q : Waiting) (p : Processor) (qs : Queues) (i : Inst) (ms : List SideAfter)
    → IsSide (private t side) (on c rs) p → Wait q qs → did t side rs c q Nothing i Calls ≡ Some ms → Does t side p qs Nothing i Calls ms
does_calls t A rs c q p qs i ms s w h = does_call_a t rs c q p qs i ms s w h
does_calls t E rs c q p qs i ms s w h = does_call_e t rs c q p qs i ms s w h

pub does_any : (t : Terms) (side : Side) (rs : List Range) (c : ℕ) (q : Waiting) (p : Processor) (qs : Queues) (u : QueueUse) (i : Inst) (ms : List SideAfter) (f : InstructionForm)
    → IsSide (private t side) (on c rs) p → Wait q qs → StoresCounted qs → allows t.setup.depths u q ≡ true → InRange i → queue_use t.setup.copies side f ≡ Some u
    → form i ≡ f → did t side rs c q u i f ≡ Some ms → Does t side p qs u i f ms
does_any t side rs c q p qs u i ms f s w n l r a own h = by f own (offset_small i f r own) a h
  where
    by : (f : InstructionForm) → form i ≡ f → OffsetFits f → queue_use t.setup.copies side f ≡ Some u → did t side rs c q u i f ≡ Some ms → Does t side p qs u i f ms
    by (Computes rd first second) own o a h = does_computes t side rs c q p qs u i s w n l r rd first second ms own h
    by (Loads kind rd base offset) own (loads o) a h = does_loads t side rs c q p qs u i s w n l r kind rd base offset ms o h
    by (Stores width base second offset) own (stores o) a h = does_stores t side rs c q p qs u i s w n l r width base second offset ms o h
    by Calls own o a h =
        let e = no_access t.setup.copies side u a in
        subst (λ (u : QueueUse). Does t side p qs u i Calls ms) (sym e) (does_calls t side rs c q p qs i ms s w (rw e at h))

-- One instruction of a processor that shows its contents.
use Rattle.std.proofs.Common.{◌≡◌, ◌≢◌, ℕ, ◌+◌, ◌*◌, ◌/◌, ◌%◌, ◌^◌, ◌<◌, ◌≤◌, Bool, true, false, ◌&&◌, ◌||◌, List, [], refl, ap, ◌∙◌, sym, arith, get_or-set_same, get_or-set_other, length-set}
use Rattle.std.specs.Prelude.{◌==◌, Some, None, nat_lt, nat_le, nat_eq, slice_get, slice_index, slice_set, if◌then◌else◌, ℤ}
use Rattle.std.proofs.lemmas.Bool.Decides.{nat_tests}
use Rattle.dae_base.specs.Words.{plus, word, loaded, stored, width_of, low_bytes}
use Rattle.dae_base.specs.declared.Width.{Width}
use Rattle.dae_base.specs.declared.Width.TheVariants.{B4}
use Rattle.dae_base.specs.declared.LoadKind.{LoadKind}
use Rattle.dae_base.specs.declared.LoadKind.TheVariants.{I32}
use Rattle.dae_base.specs.declared.Side.TheVariants.{A, E}
use Rattle.dae_base.specs.declared.Queue.{Queue}
use Rattle.dae_encode.specs.declared.QueueUse.{QueueUse}
use Rattle.dae_encode.specs.declared.QueueUse.TheVariants.{Nothing, Load, StoreAddress}
use Rattle.dae_encode.specs.declared.Fault.TheVariants.{Private}
use Rattle.dae_encode.specs.declared.Request.TheVariants.{Asks}
use Rattle.dae_encode.specs.declared.Inst.{Inst}
use Rattle.dae_encode.specs.declared.Inst.TheVariants.{Lw, Sw, Ecall}
use Rattle.dae_encode.specs.declared.InstructionForm.TheVariants.{Computes, Loads, Stores}
use Rattle.dae_encode.specs.declared.Halt.{Halt}
use Rattle.dae_encode.specs.declared.Halt.TheVariants.{Plain}
use Rattle.dae_encode.specs.Instructions.{Effect, DoesCompute, DoesLoad, DoesStore, effect, form_of, form, value_of, value, next_of, next}
use Rattle.dae_encode.specs.Spelling.{decode}
use Rattle.dae_encode.specs.Uses.{queue_use}
use Rattle.dae_encode.specs.Processor.{Processor, held, operand, address, with_result, early_fault, put_word, decoded, if_no_fault, request, finish, is_within, is_good_private, called, prints, halts}
use Rattle.dae_select_walks.specs.Walks.{WalkSetting, Acts}
use Rattle.dae_select_walks.specs.Does.{event}
use Rattle.dae_select_walks.specs.Homes.{Contents}
use Rattle.dae_select_walks.specs.Agrees.{Shows}
use Rattle.dae_select_walks.proofs.Memory.{word_after, length-written}

-- ---- contents

-- a register gets a word, but for x0 and those that stand for queues
abbrev pub put : ℕ → ℕ → Contents → Contents
put r v c = record c { register = λ s. if nat_eq s r && (nat_lt 0 r && nat_lt r 28) then v else c.register s }

abbrev pub store : ℕ → ℕ → Contents → Contents
store i v c = record c { word = λ j. if nat_eq j i then v else c.word j }

-- what a source reads, where the access gives w
abbrev pub read : Contents → ℕ → ℕ → ℕ
read c w r = if nat_lt r 28 then c.register r else w

quarter : (k : ℕ) → ((4 * k) % 4 ≡ 0) × (4 * k / 4 ≡ k)
quarter k = (omega arith, omega arith)

-- what an effect says of the instruction
form_is : (i : Inst) (e : Effect) → effect i ≡ e → form i ≡ form_of e
unfolding form
form_is i e h = ap form_of h

value_is : (i : Inst) (e : Effect) (pc x y : ℕ) → effect i ≡ e → value i pc x y ≡ value_of e pc x y
unfolding value
value_is i e pc x y h = ap (λ f. value_of f pc x y) h

next_is : (i : Inst) (e : Effect) (pc x y : ℕ) → effect i ≡ e → next i pc x y ≡ next_of e pc x y
unfolding next
next_is i e pc x y h = ap (λ f. next_of f pc x y) h

module _ (s : WalkSetting) (private : ℕ) where
  -- a processor that goes on asks what the instruction at its counter asks
  pub request_at : {c : Contents} {k : ℕ} {p : Processor} (w : ℕ) (i : Inst) → Shows private c k p → slice_get s.code k ≡ Some w → decode w ≡ Some i → request s.copies s.side s.code s.memory p ≡ decoded s.copies s.side s.memory p (Some i)
  unfolding request
  request_at {k = k} w i h here is = let q = quarter k in rw (h.runs, h.counter, q.0, q.1, here, is) refl

  pub reads : {c : Contents} {k : ℕ} {p : Processor} (w r : ℕ) → Shows private c k p → operand p w r ≡ read c w r
  reads {c} {k} {p} w r h = by (nat_lt r 28) refl
    where
      zero_or : (z : Bool) → (r == 0) ≡ z → slice_index p.registers r ≡ c.register r → (if z then 0 else slice_index p.registers r) ≡ c.register r
      zero_or true t same = let e : r ≡ 0 = grind (arith, nat_tests) in rw e (sym h.zero)
      zero_or false t same = same

      by : (b : Bool) → nat_lt r 28 ≡ b → (if b then held p r else w) ≡ (if b then c.register r else w)
      by true e = let small : r < 28 = grind (arith, nat_tests) in zero_or (r == 0) refl (h.registers r (omega arith))
      by false e = refl

  -- a result is written
  pub shows_put : {c : Contents} {k : ℕ} {p : Processor} (rd v n k' : ℕ) → Shows private c k p → v < 2 ^ 32 → n ≡ 4 * k' → Shows private (put rd v c) k' (record p { registers = with_result rd v p.registers; counter = n })
  shows_put {c} {k} {p} rd v n k' h fits at = by (nat_lt 0 rd) (nat_lt rd 28) refl refl
    where
      by : (a b : Bool) → nat_lt 0 rd ≡ a → nat_lt rd 28 ≡ b → Shows private (record c { register = λ s. if nat_eq s rd && (a && b) then v else c.register s }) k' (record p { registers = (if a && b then slice_set p.registers rd v else p.registers); counter = n })
      by true true ea eb = record {
        runs = h.runs;
        counter = at;
        count = length-set p.registers rd v ∙ h.count;
        registers = λ r small. one r (nat_eq r rd) refl small;
        zero = (let e : nat_eq 0 rd ≡ false = grind (arith, nat_tests) in rw e h.zero);
        size = h.size;
        words = h.words;
        fits = λ r. fine r (nat_eq r rd);
        holds = h.holds;
      }
        where
          one : (r : ℕ) (t : Bool) → nat_eq r rd ≡ t → r < 32 → slice_index (slice_set p.registers rd v) r ≡ (if t && true then v else c.register r)
          one r true e small = let same : r ≡ rd = grind (arith, nat_tests) in let count = h.count in rw same (get_or-set_same p.registers rd v 0 (grind (arith, nat_tests)))
          one r false e small = let other : r ≢ rd = grind (arith, nat_tests) in get_or-set_other p.registers rd r v 0 other ∙ h.registers r small

          fine : (r : ℕ) (t : Bool) → (if t && true then v else c.register r) < 2 ^ 32
          fine r true = fits
          fine r false = h.fits r
      by true false ea eb = record {
        runs = h.runs;
        counter = at;
        count = h.count;
        registers = λ r small. plain r (nat_eq r rd) small;
        zero = none 0 (nat_eq 0 rd) ∙ h.zero;
        size = h.size;
        words = h.words;
        fits = λ r. rw (none r (nat_eq r rd)) (h.fits r);
        holds = h.holds;
      }
        where
          none : (r : ℕ) (t : Bool) → (if t && false then v else c.register r) ≡ c.register r
          none r true = refl
          none r false = refl

          plain : (r : ℕ) (t : Bool) → r < 32 → slice_index p.registers r ≡ (if t && false then v else c.register r)
          plain r t small = h.registers r small ∙ sym (none r t)
      by false b ea eb = record {
        runs = h.runs;
        counter = at;
        count = h.count;
        registers = λ r small. plain r (nat_eq r rd) small;
        zero = none 0 (nat_eq 0 rd) ∙ h.zero;
        size = h.size;
        words = h.words;
        fits = λ r. rw (none r (nat_eq r rd)) (h.fits r);
        holds = h.holds;
      }
        where
          none : (r : ℕ) (t : Bool) → (if t && (false && b) then v else c.register r) ≡ c.register r
          none r true = refl
          none r false = refl

          plain : (r : ℕ) (t : Bool) → r < 32 → slice_index p.registers r ≡ (if t && (false && b) then v else c.register r)
          plain r t small = h.registers r small ∙ sym (none r t)

  -- an instruction that computes, branches or jumps, with at most one access
  pub step : {c : Contents} {k : ℕ} {p : Processor} (i : Inst) (rd x y given k' w : ℕ) (go to : ℕ → ℕ → ℕ → ℕ) (u : QueueUse) → Shows private c k p → slice_get s.code k ≡ Some w → decode w ≡ Some i →
      effect i ≡ DoesCompute rd x y go to → queue_use s.copies s.side (Computes rd x y) ≡ Some u →
      go (4 * k) (read c given x) (read c given y) < 2 ^ 32 → to (4 * k) (read c given x) (read c given y) ≡ 4 * k' →
      Acts s p (event u (go (4 * k) (read c 0 x) (read c 0 y)) given []) (Shows private (put rd (go (4 * k) (read c given x) (read c given y)) c) k')
  unfolding early_fault put_word finish
  step {c} {k} {p} i rd x y given k' w go to u h here is does legal fits lands = record {
    next = record p { registers = with_result rd (go (4 * k) (read c given x) (read c given y)) p.registers; counter = to (4 * k) (read c given x) (read c given y) };
    goes = record {
      inst = i;
      asks = request_at w i h here is ∙ rw (form_is i _ does, legal, h.counter, reads 0 x h, reads 0 y h, value_is i _ (4 * k) (read c 0 x) (read c 0 y) does) refl;
      does = rw (form_is i _ does, h.counter, reads given x h, reads given y h, value_is i _ (4 * k) (read c given x) (read c given y) does, next_is i _ (4 * k) (read c given x) (read c given y) does) refl;
    };
    holds = shows_put rd (go (4 * k) (read c given x) (read c given y)) (to (4 * k) (read c given x) (read c given y)) k' h fits lands;
  }

  -- ---- private memory

  good_word : {c : Contents} {k : ℕ} {p : Processor} (i : ℕ) → Shows private c k p → i < private → is_good_private p B4 (4 * i) ≡ true
  good_word i h l = let size = h.size in grind (arith, nat_tests)

  next_word : {c : Contents} {k : ℕ} {p : Processor} → Shows private c k p → k < 2 ^ 29 → plus p.counter 4 ≡ 4 * (k + 1)
  next_word {k = k} h small = let at = h.counter in omega arith

  -- a register gets a word of private memory
  pub step_load : {c : Contents} {k : ℕ} {p : Processor} (rd base : ℕ) (imm : ℤ) (i w : ℕ) → Shows private c k p → slice_get s.code k ≡ Some w → decode w ≡ Some (Lw rd base imm) → k < 2 ^ 29 →
      queue_use s.copies s.side (Loads I32 rd base (word imm)) ≡ Some Nothing → base < 28 → plus (c.register base) (word imm) ≡ 4 * i → i < private →
      Acts s p (event Nothing (c.word i) 0 []) (Shows private (put rd (c.word i) c) (k + 1))
  unfolding form early_fault put_word finish
  step_load {c} {k} {p} rd base imm i w h here is small legal low address inside =
      let plain : nat_lt base 28 ≡ true = grind (arith, nat_tests) in
      let good = good_word i h inside in
      let found : plus (operand p 0 base) (word imm) ≡ 4 * i = rw (reads 0 base h, plain) address in
      record {
        next = record p { registers = with_result rd (c.word i) p.registers; counter = 4 * (k + 1) };
        goes = record {
          inst = Lw rd base imm;
          asks = request_at w (Lw rd base imm) h here is ∙ rw (legal, found, good, h.words i inside) (lone (nat_le 28 base));
          does = rw (found, good, h.words i inside, next_word h small) refl;
        };
        holds = shows_put rd (c.word i) (4 * (k + 1)) (k + 1) h (h.holds i) refl;
      }
    where
      lone : (b : Bool) → if_no_fault (if b || true then None else Some Private) (Asks Nothing (c.word i) (Lw rd base imm)) ≡ Asks Nothing (c.word i) (Lw rd base imm)
      lone true = refl
      lone false = refl

  shows_store : {c : Contents} {k : ℕ} {p : Processor} (i v k' n : ℕ) → Shows private c k p → v < 2 ^ 32 → i < private → n ≡ 4 * k' → Shows private (store i v c) k' (record p { counter = n; private = stored B4 (4 * i) v p.private })
  shows_store {c} {k} {p} i v k' n h fits inside at = record {
    runs = h.runs;
    counter = at;
    count = h.count;
    registers = h.registers;
    zero = h.zero;
    size = length-written (low_bytes 4 v) (4 * i) p.private ∙ h.size;
    words = λ j l. (let size = h.size in word_after j i v p.private fits (omega arith)) ∙ by j l (nat_eq j i);
    fits = h.fits;
    holds = λ j. fine j (nat_eq j i);
  }
    where
      by : (j : ℕ) → j < private → (b : Bool) → (if b then v else loaded I32 (4 * j) p.private) ≡ (if b then v else c.word j)
      by j l true = refl
      by j l false = h.words j l

      fine : (j : ℕ) (b : Bool) → (if b then v else c.word j) < 2 ^ 32
      fine j true = fits
      fine j false = h.holds j

  -- a word of private memory gets a register
  pub step_store : {c : Contents} {k : ℕ} {p : Processor} (base source : ℕ) (imm : ℤ) (i w : ℕ) → Shows private c k p → slice_get s.code k ≡ Some w → decode w ≡ Some (Sw base source imm) → k < 2 ^ 29 →
      queue_use s.copies s.side (Stores B4 base source (word imm)) ≡ Some Nothing → base < 28 → source < 28 → plus (c.register base) (word imm) ≡ 4 * i → i < private →
      Acts s p (event Nothing (4 * i) 0 []) (Shows private (store i (c.register source) c) (k + 1))
  unfolding form early_fault put_word finish
  step_store {c} {k} {p} base source imm i w h here is small legal low plainly address inside =
      let plain : nat_lt base 28 ≡ true = grind (arith, nat_tests) in
      let too : nat_lt source 28 ≡ true = grind (arith, nat_tests) in
      let good = good_word i h inside in
      let found : plus (operand p 0 base) (word imm) ≡ 4 * i = rw (reads 0 base h, plain) address in
      let value : operand p 0 source ≡ c.register source = rw (reads 0 source h, too) refl in
      record {
        next = record p { counter = 4 * (k + 1); private = stored B4 (4 * i) (c.register source) p.private };
        goes = record {
          inst = Sw base source imm;
          asks = request_at w (Sw base source imm) h here is ∙ rw (legal, found, good) (lone (nat_le 28 base));
          does = rw (found, value, good, next_word h small) refl;
        };
        holds = shows_store i (c.register source) (k + 1) (4 * (k + 1)) h (h.fits source) inside refl;
      }
    where
      lone : (b : Bool) → if_no_fault (if b || true then None else Some Private) (Asks Nothing (4 * i) (Sw base source imm)) ≡ Asks Nothing (4 * i) (Sw base source imm)
      lone true = refl
      lone false = refl

  -- ---- common memory

  -- a load or a store address is given to a queue
  pub step_shared : {c : Contents} {k : ℕ} {p : Processor} (i : Inst) (kind : LoadKind) (queue : Queue) (rd base offset a w : ℕ) → Shows private c k p → slice_get s.code k ≡ Some w → decode w ≡ Some i → k < 2 ^ 29 →
      effect i ≡ DoesLoad kind rd base offset → queue_use s.copies s.side (Loads kind rd base offset) ≡ Some (Load queue kind) → base < 28 → plus (c.register base) offset ≡ a → is_within 16 s.memory (width_of kind) a ≡ true →
      Acts s p (event (Load queue kind) a 0 []) (Shows private c (k + 1))
  unfolding early_fault put_word finish
  step_shared {c} {k} {p} i kind queue rd base offset a w h here is small does legal low address good =
      let plain : nat_lt base 28 ≡ true = grind (arith, nat_tests) in
      let found : plus (operand p 0 base) offset ≡ a = rw (reads 0 base h, plain) address in
      record {
        next = record p { counter = 4 * (k + 1) };
        goes = record {
          inst = i;
          asks = request_at w i h here is ∙ rw (form_is i _ does, legal, found, good) refl;
          does = rw (form_is i _ does, next_word h small) refl;
        };
        holds = record { runs = h.runs; counter = refl; count = h.count; registers = h.registers; zero = h.zero; size = h.size; words = h.words; fits = h.fits; holds = h.holds };
      }

  pub step_address : {c : Contents} {k : ℕ} {p : Processor} (i : Inst) (width : Width) (base source offset a w : ℕ) → Shows private c k p → slice_get s.code k ≡ Some w → decode w ≡ Some i → k < 2 ^ 29 →
      effect i ≡ DoesStore width base source offset → queue_use s.copies s.side (Stores width base source offset) ≡ Some (StoreAddress width) → base < 28 → plus (c.register base) offset ≡ a → is_within 16 s.memory width a ≡ true →
      Acts s p (event (StoreAddress width) a 0 []) (Shows private c (k + 1))
  unfolding early_fault put_word finish
  step_address {c} {k} {p} i width base source offset a w h here is small does legal low address good =
      let plain : nat_lt base 28 ≡ true = grind (arith, nat_tests) in
      let found : plus (operand p 0 base) offset ≡ a = rw (reads 0 base h, plain) address in
      record {
        next = record p { counter = 4 * (k + 1) };
        goes = record {
          inst = i;
          asks = request_at w i h here is ∙ rw (form_is i _ does, legal, found, good) refl;
          does = rw (form_is i _ does, next_word h small) refl;
        };
        holds = record { runs = h.runs; counter = refl; count = h.count; registers = h.registers; zero = h.zero; size = h.size; words = h.words; fits = h.fits; holds = h.holds };
      }

-- ---- the environment call

module _ (s : WalkSetting) (private : ℕ) (by_e : s.side ≡ E) where
  spoken : {c : Contents} {k : ℕ} {p : Processor} (w what : ℕ) → Shows private c k p → slice_get s.code k ≡ Some w → decode w ≡ Some Ecall → c.register 17 ≡ what → what ≤ 5 → request s.copies s.side s.code s.memory p ≡ Asks Nothing 0 Ecall
  unfolding form queue_use early_fault put_word
  spoken {c} {k} {p} w what h here is selects known =
      let register : slice_index p.registers 17 ≡ what = h.registers 17 (omega arith) ∙ selects in
      let fine : nat_lt 5 what ≡ false = grind (arith, nat_tests) in
      request_at s private w Ecall h here is ∙ rw (by_e, register, fine) refl

  -- E prints
  pub step_prints : {c : Contents} {k : ℕ} {p : Processor} (w what : ℕ) (text : List ℕ) → Shows private c k p → slice_get s.code k ≡ Some w → decode w ≡ Some Ecall → k < 2 ^ 29 → c.register 17 ≡ what → what ≤ 5 →
      ((q : Processor) → called E q what (c.register 10) ≡ prints q text) → Acts s p (event Nothing 0 0 text) (Shows private c (k + 1))
  unfolding form finish
  step_prints {c} {k} {p} w what text h here is small selects known does =
      let register : slice_index p.registers 17 ≡ what = h.registers 17 (omega arith) ∙ selects in
      let argument : slice_index p.registers 10 ≡ c.register 10 = h.registers 10 (omega arith) in
      record {
        next = record p { counter = 4 * (k + 1) };
        goes = record {
          inst = Ecall;
          asks = spoken w what h here is selects known;
          does = rw (by_e, register, argument, does p, next_word s private h small) refl;
        };
        holds = record { runs = h.runs; counter = refl; count = h.count; registers = h.registers; zero = h.zero; size = h.size; words = h.words; fits = h.fits; holds = h.holds };
      }

  -- E halts
  pub step_ends : {c : Contents} {k : ℕ} {p : Processor} (w what : ℕ) (halt : Halt) → Shows private c k p → slice_get s.code k ≡ Some w → decode w ≡ Some Ecall → c.register 17 ≡ what → what ≤ 5 →
      ((q : Processor) → called E q what (c.register 10) ≡ halts q halt) → Acts s p (event Nothing 0 0 []) (λ q. q.halt ≡ Some halt)
  unfolding form finish
  step_ends {c} {k} {p} w what halt h here is selects known does =
      let register : slice_index p.registers 17 ≡ what = h.registers 17 (omega arith) ∙ selects in
      let argument : slice_index p.registers 10 ≡ c.register 10 = h.registers 10 (omega arith) in
      record {
        next = record p { counter = plus p.counter 4; halt = Some halt };
        goes = record { inst = Ecall; asks = spoken w what h here is selects known; does = rw (by_e, register, argument, does p) refl };
        holds = refl;
      }

-- A halts
pub step_stops : (s : WalkSetting) (private : ℕ) → s.side ≡ A → {c : Contents} {k : ℕ} {p : Processor} (w : ℕ) → Shows private c k p → slice_get s.code k ≡ Some w → decode w ≡ Some Ecall → Acts s p (event Nothing 0 0 []) (λ q. q.halt ≡ Some Plain)
unfolding form queue_use early_fault put_word finish
step_stops s private by_a {c} {k} {p} w h here is = record {
  next = record p { counter = plus p.counter 4; halt = Some Plain };
  goes = record { inst = Ecall; asks = request_at s private w Ecall h here is ∙ rw by_a refl; does = rw by_a refl };
  holds = refl;
}

-- The queues in a round, where no own load waits: loads for E that wait, and are filled in their order.
use Rattle.std.proofs.Common.{◌≡◌, ℕ, suc, ◌+◌, ◌<◌, false, List, [], ◌∷◌, ◌++◌, length, refl, ap, ◌∙◌, append_assoc, length-append, arith}
use Rattle.std.specs.Prelude.{Some, is_none, nat_eq, nat_lt}
use Rattle.std.specs.List.{AllByRecursion, list_any}
use Rattle.std.proofs.lemmas.Bool.Decides.{nat_tests}
use Rattle.std.proofs.lemmas.Bool.{and_right}
use Rattle.dae_base.specs.declared.Side.TheVariants.{A, E}
use Rattle.dae_base.specs.declared.LoadKind.{LoadKind}
use Rattle.dae_base.specs.declared.Width.{Width}
use Rattle.dae_base.specs.declared.Queue.TheVariants.{Ld, Al}
use Rattle.dae_base.specs.Words.{loaded}
use Rattle.dae_base.proofs.Laws.{same_number}
use Rattle.dae_encode.specs.declared.QueueUse.TheVariants.{Load}
use Rattle.dae_encode.specs.Processor.{Processor}
use Rattle.dae_queues.specs.declared.Slot.{Slot}
use Rattle.dae_queues.specs.declared.StoreAt.{StoreAt}
use Rattle.dae_queues.specs.Lists.{new_slot, waiting, with_value, bars}
use Rattle.dae_core.specs.Queues.{Queues, commit}
use Rattle.dae_machine.specs.declared.Pick.{Pick}
use Rattle.dae_machine.specs.declared.Pick.TheVariants.{Fill}
use Rattle.dae_machine.specs.Memory.{fill}
use Rattle.dae_machine.specs.Machine.{Setup, State, step, Runs}
use Rattle.dae_machine_rounds.specs.Order.{IsFill}
use Rattle.dae_machine.specs.Walks.{state_of}

-- how many slots and stores ever came and went
pub record Counts : Type 0 where
  pub ld_taken : ℕ
  pub ld_reserved : ℕ
  pub al_taken : ℕ
  pub al_reserved : ℕ
  pub drained : ℕ
  pub issued : ℕ

abbrev pub held : Counts → List Slot → List StoreAt → List ℕ → List ℕ → List ℕ → List ℕ → Queues
held c ld sa sd ab eb cq = record {
  ld = record { taken = c.ld_taken; reserved = c.ld_reserved; slots = ld };
  al = record { taken = c.al_taken; reserved = c.al_reserved; slots = [] };
  stores = record { drained = c.drained; issued = c.issued; sa = sa; sd = sd };
  ab = ab;
  eb = eb;
  cq = cq;
}

abbrev pub resting : Counts → Queues
resting c = held c [] [] [] [] [] []

-- loads for E, each with its kind and address
abbrev pub Loads : Type 0
Loads = List (LoadKind × ℕ)

abbrev pub waiting_slots : ℕ → ℕ → Loads → List Slot
waiting_slots n stamp [] = []
waiting_slots n stamp (l ∷ ls) = new_slot n l.0 l.1 stamp ∷ waiting_slots (n + 1) stamp ls

abbrev pub filled_slot : ℕ → ℕ → List ℕ → LoadKind → ℕ → Slot
filled_slot n stamp m kind a = record { number = n; addr = a; kind = kind; stamp = stamp; value = Some (loaded kind a m) }

abbrev pub filled_slots : ℕ → ℕ → List ℕ → Loads → List Slot
filled_slots n stamp m [] = []
filled_slots n stamp m (l ∷ ls) = filled_slot n stamp m l.0 l.1 ∷ filled_slots (n + 1) stamp m ls

-- their words
abbrev pub words_for : List ℕ → Loads → List ℕ
words_for m [] = []
words_for m (l ∷ ls) = loaded l.0 l.1 m ∷ words_for m ls

pub words_for-append : (m : List ℕ) (ls ks : Loads) → words_for m (ls ++ ks) ≡ words_for m ls ++ words_for m ks
words_for-append m [] ks = refl
words_for-append m (l ∷ ls) ks = ap (λ xs. loaded l.0 l.1 m ∷ xs) (words_for-append m ls ks)

pub waiting_slots-append : (n stamp a : ℕ) (kind : LoadKind) (ls : Loads) → waiting_slots n stamp ls ++ new_slot (n + length ls) kind a stamp ∷ [] ≡ waiting_slots n stamp (ls ++ (kind, a) ∷ [])
waiting_slots-append n stamp a kind [] = ap (λ k. new_slot k kind a stamp ∷ []) (omega arith)
waiting_slots-append n stamp a kind (l ∷ ls) =
    ap (λ ss. new_slot n l.0 l.1 stamp ∷ ss) (ap (λ k. waiting_slots (n + 1) stamp ls ++ new_slot k kind a stamp ∷ []) (omega arith) ∙ waiting_slots-append (n + 1) stamp a kind ls)

pub waiting_count : (n stamp : ℕ) (ls : Loads) → length (waiting_slots n stamp ls) ≡ length ls
waiting_count n stamp [] = refl
waiting_count n stamp (l ∷ ls) = ap suc (waiting_count (n + 1) stamp ls)

-- ---- A's part: loads for E, the address of a store, messages and copies are sent

abbrev pub sending : Counts → Loads → List StoreAt → List ℕ → List ℕ → Queues
sending c ls sa ab cq = held (record c { ld_reserved = c.ld_reserved + length ls }) (waiting_slots c.ld_reserved c.issued ls) sa [] ab [] cq

pub reserved_is : (c : Counts) (ls : Loads) (cq : List ℕ) (kind : LoadKind) (a : ℕ) → commit (Load Ld kind) a (sending c ls [] [] cq) ≡ sending c (ls ++ (kind, a) ∷ []) [] [] cq
reserved_is c ls cq kind a =
    let grown : length (ls ++ (kind, a) ∷ []) ≡ length ls + 1 = length-append ls ((kind, a) ∷ []) in
    ap (λ (ss : List Slot). held (record c { ld_reserved = c.ld_reserved + length ls + 1 }) ss [] [] [] [] cq) (waiting_slots-append c.ld_reserved c.issued a kind ls)
    ∙ ap (λ (k : ℕ). held (record c { ld_reserved = k }) (waiting_slots c.ld_reserved c.issued (ls ++ (kind, a) ∷ [])) [] [] [] [] cq) (omega arith)

-- one own load more came and went
abbrev pub owned : Counts → Counts
owned c = record c { al_taken = c.al_taken + 1; al_reserved = c.al_reserved + 1 }

abbrev pub with_own_filled : Counts → Loads → List ℕ → List ℕ → LoadKind → ℕ → Queues
with_own_filled c ls cq m kind a = record (sending (record c { al_reserved = c.al_reserved + 1 }) ls [] [] cq) { al = record { taken = c.al_taken; reserved = c.al_reserved + 1; slots = filled_slot c.al_reserved c.issued m kind a ∷ [] } }

pub own_filled : (c : Counts) (ls : Loads) (cq m : List ℕ) (kind : LoadKind) (a : ℕ) → fill A c.al_reserved (commit (Load Al kind) a (sending c ls [] [] cq)) m ≡ Some (with_own_filled c ls cq m kind a)
own_filled c ls cq m kind a = rw (same_number c.al_reserved) refl

-- ---- the fills

abbrev pub AreFilled : List Slot → Type 0
AreFilled ss = AllByRecursion (λ (s : Slot). is_none s.value ≡ false) ss

waiting_done : (j : ℕ) (done ss : List Slot) → AreFilled done → waiting j (done ++ ss) ≡ waiting j ss
waiting_done j [] ss h = refl
waiting_done j (s ∷ done) ss h = rw (and_right (nat_eq s.number j) (is_none s.value) h.0) (waiting_done j done ss h.1)

with_value_done : (j w : ℕ) (done ss : List Slot) → AreFilled done → with_value j w (done ++ ss) ≡ done ++ with_value j w ss
with_value_done j w [] ss h = refl
with_value_done j w (s ∷ done) ss h = rw (and_right (nat_eq s.number j) (is_none s.value) h.0) (ap (λ xs. s ∷ xs) (with_value_done j w done ss h.1))

with_value_later : (j w k stamp : ℕ) (ls : Loads) → j < k → with_value j w (waiting_slots k stamp ls) ≡ waiting_slots k stamp ls
with_value_later j w k stamp [] h = refl
with_value_later j w k stamp (l ∷ ls) h =
    let no : nat_eq k j ≡ false = grind (arith, nat_tests) in
    rw no (ap (λ ss. new_slot k l.0 l.1 stamp ∷ ss) (with_value_later j w (k + 1) stamp ls (omega arith)))

filled-append : (done : List Slot) (s : Slot) → AreFilled done → is_none s.value ≡ false → AreFilled (done ++ s ∷ [])
filled-append [] s h k = (k, tt)
filled-append (z ∷ done) s h k = (h.0, filled-append done s h.1 k)

-- no store that waits is older than the loads of the round
abbrev pub NoneBars : ℕ → List StoreAt → Type 0
NoneBars stamp sa = (j a : ℕ) (kind : LoadKind) → list_any (bars (new_slot j kind a stamp)) sa ≡ false

pub none_waits : (stamp : ℕ) → NoneBars stamp []
none_waits stamp j a kind = refl

lt_same : (n : ℕ) → nat_lt n n ≡ false
lt_same n = grind (arith, nat_tests)

pub new_waits : (stamp addr : ℕ) (width : Width) → NoneBars stamp (record { number = stamp; addr = addr; width = width } ∷ [])
new_waits stamp addr width j a kind = rw (lt_same stamp) refl

module _ (setup : Setup) (a e : Processor) (c : Counts) (stamp : ℕ) (sa : List StoreAt) (sd ab eb cq memory printed : List ℕ) (free : NoneBars stamp sa) where
  abbrev pub at_slots : List Slot → ℕ → State
  at_slots ss steps = state_of a e (held c ss sa sd ab eb cq) memory printed steps

  filling_step : (done : List Slot) (j addr steps : ℕ) (kind : LoadKind) (later : Loads) → AreFilled done
      → step setup (at_slots (done ++ new_slot j kind addr stamp ∷ waiting_slots (j + 1) stamp later) steps) (Fill E j) ≡ Some (at_slots (done ++ filled_slot j stamp memory kind addr ∷ waiting_slots (j + 1) stamp later) (steps + 1))
  filling_step done j addr steps kind later h =
      rw (waiting_done j done (waiting_slots j stamp ((kind, addr) ∷ later)) h, same_number j, free j addr kind, with_value_done j (loaded kind addr memory) done (waiting_slots j stamp ((kind, addr) ∷ later)) h, same_number j, with_value_later j (loaded kind addr memory) (j + 1) stamp later (omega arith)) refl

  pub record Filled (before after : List Slot) (steps count : ℕ) : Type 0 where
    pub picks : List Pick
    pub total : ℕ
    pub runs : Runs setup (at_slots before steps) picks (at_slots after total)
    pub fills : AllByRecursion IsFill picks
    pub count' : length picks ≡ count

  pub fills_run : (done : List Slot) (j steps : ℕ) (ls : Loads) → AreFilled done → Filled (done ++ waiting_slots j stamp ls) (done ++ filled_slots j stamp memory ls) steps (length ls)
  fills_run done j steps [] h = record { picks = []; total = steps; runs = refl; fills = tt; count' = refl }
  fills_run done j steps (l ∷ later) h =
      let r = fills_run (done ++ filled_slot j stamp memory l.0 l.1 ∷ []) (j + 1) (steps + 1) later (filled-append done _ h refl) in
      let n = r.count' in
      record {
        picks = Fill E j ∷ r.picks;
        total = r.total;
        runs = rw (filling_step done j l.1 steps l.0 later h) (
            rw (append_assoc done (filled_slot j stamp memory l.0 l.1 ∷ []) (waiting_slots (j + 1) stamp later), append_assoc done (filled_slot j stamp memory l.0 l.1 ∷ []) (filled_slots (j + 1) stamp memory later)) at r.runs);
        fills = (tt, r.fills);
        count' = omega arith;
      }

-- One round on the machine: A's part, the fills, E's part; then perhaps A hears, and a store is drained.
use Rattle.std.proofs.Common.{◌≡◌, ℕ, zero, suc, ◌+◌, ◌*◌, ◌≤◌, ◌⊎◌, Bool, true, false, List, [], ◌∷◌, ◌++◌, length, refl, ap, ◌∙◌, subst, append_assoc, length-append, arith}
use Rattle.std.specs.List.{AllByRecursion}
use Rattle.std.proofs.Math.Nat.{mul-add, mul-suc}
use Rattle.dae_encode.specs.Processor.{Processor}
use Rattle.dae_queues.specs.declared.StoreAt.{StoreAt}
use Rattle.dae_core.specs.Queues.{Queues}
use Rattle.dae_machine.specs.declared.Pick.{Pick}
use Rattle.dae_machine.specs.declared.Pick.TheVariants.{Drain}
use Rattle.dae_machine.specs.Runs.{often}
use Rattle.dae_machine.specs.Ends.{is_e}
use Rattle.dae_machine.specs.Machine.{Setup, State, step, Runs}
use Rattle.dae_machine.proofs.LawsOfRuns.{run-on}
use Rattle.dae_ir.specs.Form.{Program}
use Rattle.dae_ir.specs.Streams.{Actions}
use Rattle.dae_machine.specs.Walks.{IsExecute}
use Rattle.dae_machine_rounds.specs.Spots.{Spot, Came}
use Rattle.dae_machine_rounds.specs.Sides.{Agrees, Implements}
use Rattle.dae_machine.specs.Walks.{IsAccess}
use Rattle.dae_machine_rounds.specs.Order.{PickRound, picks_of, IsRound, IsFill}
use Rattle.dae_machine.specs.Walks.{state_of}
use Rattle.dae_machine.specs.Walks.{WordsWait}
use Rattle.dae_machine_rounds.proofs.Does.{Does, did_a, did_e}
use Rattle.dae_machine_rounds.proofs.Slots.{Counts, Loads, held, waiting_slots, filled_slots, NoneBars, fills_run}

pub one_each : (most n : ℕ) → 1 ≤ most → n ≤ most * n
one_each most zero h = omega arith
one_each most (suc n) h = let e = mul-suc most n in let i = one_each most n h in omega arith

-- a part of a side, of at most so many moves and fills, and at least so many instructions
pub record Part (setup : Setup) (p : Program) (by_a : Bool) (body : ℕ → Actions) (m : List ℕ) (s : Spot) (q : Queues) (text : List ℕ) (c : Came) (q' : Queues) (n least : ℕ) : Type 0 where
  pub moves : ℕ
  pub fills : ℕ
  pub instructions : ℕ
  pub does : Does setup p by_a body m moves fills instructions s q text c q'
  pub few : moves + fills ≤ n
  pub some : least ≤ instructions

module _ (setup : Setup) (p : Program) (body_a body_e : ℕ → Actions) (most : ℕ) (At_a At_e : Spot → Processor → Type 0) (code_a : Implements setup p true body_a most At_a) (code_e : Implements setup p false body_e most At_e) (positive : 1 ≤ most) where
  -- A's part, the fills and E's part have been made
  pub record Played (s : State) (ca ce : Came) (text : List ℕ) (q : Queues) (n least : ℕ) : Type 0 where
    pub a : Processor
    pub e : Processor
    pub total : ℕ
    pub access : List Pick
    pub fills : List Pick
    pub execute : List Pick
    pub runs : Runs setup s (access ++ (fills ++ execute)) (state_of a e q s.memory (s.printed ++ text) total)
    pub is_access : IsAccess access
    pub is_fills : AllByRecursion IsFill fills
    pub is_execute : IsExecute execute
    pub agrees_a : Agrees At_a ca a
    pub agrees_e : Agrees At_e ce e
    pub units : ℕ
    pub few : length access + (length fills + length execute) ≤ most * units
    pub bound : units ≤ n
    pub some : least ≤ often is_e execute
    pub words : WordsWait q

  pub play : (m : List ℕ) (s : State) (sa se : Spot) (q0 q3 : Queues) (x : Counts) (k stamp : ℕ) (ls : Loads) (stores : List StoreAt) (sd ab eb cq text : List ℕ) (ca ce : Came) (na ne la le : ℕ) → At_a sa s.a → At_e se s.e → s.queues ≡ q0 → WordsWait q0 → s.memory ≡ m → NoneBars stamp stores
      → Part setup p true body_a m sa q0 [] ca (held x (waiting_slots k stamp ls) stores sd ab eb cq) na la
      → (WordsWait (held x (waiting_slots k stamp ls) stores sd ab eb cq) → Part setup p false body_e m se (held x (filled_slots k stamp m ls) stores sd ab eb cq) text ce q3 ne le)
      → Played s ca ce text q3 (na + length ls + ne) le
  play m s sa se q0 q3 x k stamp ls stores sd ab eb cq text ca ce na ne la le at_a at_e same wait mem free part_a part_e =
      let da = did_a setup p body_a most At_a code_a m s mem same at_a part_a.does in
      let ra = da.ran in
      let words1 = da.words (rw same wait) in
      let q1 = held x (waiting_slots k stamp ls) stores sd ab eb cq in
      let q2 = held x (filled_slots k stamp m ls) stores sd ab eb cq in
      let s1 = state_of da.after s.e q1 s.memory s.printed ra.total in
      let f = fills_run setup da.after s.e x stamp stores sd ab eb cq s.memory s.printed free [] k ra.total ls tt in
      let filled : Runs setup s1 f.picks (state_of da.after s.e q2 s.memory s.printed f.total) = subst (λ (z : List ℕ). Runs setup s1 f.picks (state_of da.after s.e (held x (filled_slots k stamp z ls) stores sd ab eb cq) s.memory s.printed f.total)) mem f.runs in
      let s2 = state_of da.after s.e q2 s.memory s.printed f.total in
      let words2 : WordsWait q2 = record { ab = words1.ab; eb = words1.eb; cq = words1.cq } in
      let pe = part_e words1 in
      let de = did_e setup p body_e most At_e code_e m s2 mem refl at_e pe.does in
      let re = de.ran in
      let s3 = state_of da.after de.after q3 s.memory (s.printed ++ text) re.total in
      let c1 = ra.count in let c2 = f.count' in let c3 = re.count in
      let b1 = da.few in let b3 = de.few in let v = re.moves' in let i = de.some in let j = pe.some in
      let f1 = part_a.few in let f3 = pe.few in
      let e1 = mul-add most part_a.moves part_a.fills in
      let e2 = mul-add most (part_a.moves + part_a.fills) (length ls) in
      let e3 = mul-add most (part_a.moves + part_a.fills + length ls) pe.moves in
      let o1 = one_each most part_a.fills positive in
      let o2 = one_each most (length ls) positive in
      record {
        a = da.after;
        e = de.after;
        total = re.total;
        access = ra.picks;
        fills = f.picks;
        execute = re.picks;
        runs = run-on (step setup) s s1 s3 ra.picks (f.picks ++ re.picks) ra.runs (run-on (step setup) s1 s2 s3 f.picks re.picks filled re.runs);
        is_access = ra.access;
        is_fills = f.fills;
        is_execute = re.execute;
        agrees_a = da.agrees;
        agrees_e = de.agrees;
        units = part_a.moves + part_a.fills + length ls + pe.moves;
        few = omega arith;
        bound = omega arith;
        some = omega arith;
        words = de.words words2;
      }

  -- ---- the round's end

  -- nothing more
  pub record Whole (s t : State) (n least : ℕ) : Type 0 where
    pub round : PickRound
    pub is : IsRound round
    pub runs : Runs setup s (picks_of round) t
    pub units : ℕ
    pub few : length (picks_of round) ≤ most * units
    pub bound : units ≤ n
    pub some : least ≤ often is_e (picks_of round)

  often-at : (e : Pick → Bool) (ps qs : List Pick) → often e (ps ++ qs) ≡ often e ps + often e qs
  often-at e [] qs = omega arith
  often-at e (p ∷ ps) qs = let h = often-at e ps qs in omega arith

  -- with what A hears, and a drain
  pub ends_with : (s t : State) (ca ce : Came) (text : List ℕ) (q : Queues) (n least nh : ℕ) (x : Played s ca ce text q n least) (hears drains : List Pick) → IsAccess hears → (drains ≡ []) ⊎ (drains ≡ Drain ∷ []) → length hears + length drains ≤ most * nh
      → Runs setup (state_of x.a x.e q s.memory (s.printed ++ text) x.total) (hears ++ drains) t → Whole s t (n + nh) least
  ends_with s t ca ce text q n least nh x hears drains h d few r =
      let s3 = state_of x.a x.e q s.memory (s.printed ++ text) x.total in
      let all = run-on (step setup) s s3 t (x.access ++ (x.fills ++ x.execute)) (hears ++ drains) x.runs r in
      let shape : (x.access ++ (x.fills ++ x.execute)) ++ (hears ++ drains) ≡ x.access ++ (x.fills ++ (x.execute ++ (hears ++ drains))) = append_assoc x.access (x.fills ++ x.execute) (hears ++ drains) ∙ ap (λ (zs : List Pick). x.access ++ zs) (append_assoc x.fills x.execute (hears ++ drains)) in
      let l1 = length-append x.access (x.fills ++ (x.execute ++ (hears ++ drains))) in
      let l2 = length-append x.fills (x.execute ++ (hears ++ drains)) in
      let l3 = length-append x.execute (hears ++ drains) in
      let l4 = length-append hears drains in
      let b = x.bound in let f = x.few in
      let product = mul-add most x.units nh in
      let o1 = often-at is_e x.access (x.fills ++ (x.execute ++ (hears ++ drains))) in
      let o2 = often-at is_e x.fills (x.execute ++ (hears ++ drains)) in
      let o3 = often-at is_e x.execute (hears ++ drains) in
      let i = x.some in
      record {
        round = record { access = x.access; fills = x.fills; execute = x.execute; hears = hears; drains = drains };
        is = record { access = x.is_access; fills = x.is_fills; execute = x.is_execute; hears = h; drains = d };
        runs = subst (λ (zs : List Pick). Runs setup s zs t) shape all;
        units = x.units + nh;
        few = omega arith;
        bound = omega arith;
        some = omega arith;
      }

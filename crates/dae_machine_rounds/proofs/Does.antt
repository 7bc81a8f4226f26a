-- A side does a part of its stream: moves that the queues grant. Its code then leads the machine so.
use Rattle.std.proofs.Common.{◌≡◌, ℕ, ◌+◌, ◌*◌, ◌≤◌, Bool, true, false, List, [], ◌++◌, refl, ap, append_assoc, append-nil, length-append, arith}
use Rattle.std.specs.Prelude.{Some}
use Rattle.std.specs.List.{AllByRecursion}
use Rattle.std.proofs.Math.Nat.{mul-add}
use Rattle.dae_base.specs.declared.Side.TheVariants.{A, E}
use Rattle.dae_encode.specs.Processor.{Processor}
use Rattle.dae_core.specs.Queues.{Queues}
use Rattle.dae_machine.specs.Ends.{is_a, is_e}
use Rattle.dae_machine.specs.Machine.{Setup, State, step}
use Rattle.dae_machine.proofs.LawsOfRuns.{run-on, access-append, often-append, execute-append}
use Rattle.dae_ir.specs.Form.{Program}
use Rattle.dae_ir.specs.Streams.{Actions}
use Rattle.dae_ir.specs.Programs.{side}
use Rattle.dae_ir.specs.Deeds.{Quit}
use Rattle.dae_machine.specs.Uses.{Use}
use Rattle.dae_machine_rounds.specs.Follows.{IsFit}
use Rattle.dae_machine_rounds.specs.Spots.{weight, Spot, Came, Arrives, Halted, Moves}
use Rattle.dae_machine_rounds.specs.Sides.{Agrees, Implements}
use Rattle.dae_machine.specs.Walks.{nothing}
use Rattle.dae_machine.specs.Walks.{WordsWait}
use Rattle.dae_machine.proofs.LawsOfRuns.{words_wait}
use Rattle.dae_machine.specs.Uses.{texts}
use Rattle.dae_machine.specs.Walks.{Grants, state_of, RanA, RanE}
use Rattle.dae_machine.proofs.LawsOfRuns.{ran_a, ran_e}

-- so many moves, with so many fills of own loads, and at least so many instructions, while memory stays m
pub data Does (setup : Setup) (p : Program) (by_a : Bool) (body : ℕ → Actions) (m : List ℕ) : ℕ → ℕ → ℕ → Spot → Queues → List ℕ → Came → Queues → Type 0 where
  here : {s : Spot} {q : Queues} → Does setup p by_a body m 0 0 0 s q [] (Arrives s) q
  on : {k f g l n : ℕ} {s t : Spot} {q q1 last : Queues} {uses : List Use} {text : List ℕ} {c : Came} → Moves p by_a setup.memory body l s uses (Arrives t) → Grants setup.depths (side by_a) m f q uses q1 → AllByRecursion (IsFit setup.memory) uses
      → Does setup p by_a body m k g n t q1 text c last → Does setup p by_a body m (weight s + k) (f + g) (l + n) s q (texts uses ++ text) c last
  stops : {f l : ℕ} {s : Spot} {q last : Queues} {uses : List Use} {quit : Quit} → Moves p by_a setup.memory body l s uses (Halted quit) → Grants setup.depths (side by_a) m f q uses last → AllByRecursion (IsFit setup.memory) uses
      → Does setup p by_a body m (weight s) f l s q (texts uses) (Halted quit) last

module _ (setup : Setup) (p : Program) where
  module _ (body : ℕ → Actions) (most : ℕ) (At : Spot → Processor → Type 0) (code : Implements setup p true body most At) where
    pub record DidA (s : State) (k fills least : ℕ) (c : Came) (q : Queues) : Type 0 where
      pub after : Processor
      pub steps : ℕ
      pub ran : RanA setup s steps fills after q
      pub agrees : Agrees At c after
      pub few : steps ≤ most * k
      pub some : least ≤ steps
      pub words : WordsWait s.queues → WordsWait q

    pub did_a : (m : List ℕ) (s : State) {k f l : ℕ} {a : Spot} {q q' : Queues} {text : List ℕ} {c : Came} → s.memory ≡ m → s.queues ≡ q → At a s.a → Does setup p true body m k f l a q text c q' → DidA s k f l c q'
    did_a m s {q = q} mem same at here = record {
      after = s.a;
      steps = 0;
      ran = record { picks = []; total = s.steps; runs = ap (λ (r : Queues). Some (state_of s.a s.e r s.memory s.printed s.steps)) same; access = nothing; count = omega arith; moves' = omega arith };
      agrees = at;
      few = omega arith;
      some = omega arith;
      words = λ h. rw (← same) h;
    }
    did_a m s {a = a} {q' = q'} mem same at (on {k = k} {f = f} {g = g} {l = l} {n = n} {q1 = q1} {uses = uses} move grant fit rest) =
        let w = code.moves s.a at move fit in
        let granted : Grants setup.depths A s.memory f s.queues uses q1 = rw (mem, same) grant in
        let r = ran_a setup s w.walks granted in
        let s1 = state_of w.after s.e q1 s.memory s.printed r.total in
        let d = did_a m s1 mem refl w.agrees rest in
        let o = d.ran in
        let few = w.few in let few' = d.few in let some = w.some in let some' = d.some in
        let c = r.count in let c' = o.count in let v = r.moves' in let v' = o.moves' in
        let lengths = length-append r.picks o.picks in
        let oftens = often-append is_a r.picks o.picks in
        let product = mul-add most (weight a) k in
        record {
          after = d.after;
          steps = w.steps + d.steps;
          ran = record {
            picks = r.picks ++ o.picks;
            total = o.total;
            runs = run-on (step setup) s s1 (state_of d.after s.e q' s.memory s.printed o.total) r.picks o.picks r.runs o.runs;
            access = access-append r.access o.access;
            count = omega arith;
            moves' = omega arith;
          };
          agrees = d.agrees;
          few = omega arith;
          some = omega arith;
          words = λ h. d.words (words_wait granted w.words h);
        }
    did_a m s mem same at (stops {f = f} {last = last} {uses = uses} move grant fit) =
        let w = code.moves s.a at move fit in
        let granted : Grants setup.depths A s.memory f s.queues uses last = rw (mem, same) grant in
        let r = ran_a setup s w.walks granted in
        let few = w.few in
        record { after = w.after; steps = w.steps; ran = r; agrees = w.agrees; few = omega arith; some = w.some; words = words_wait granted w.words }

  module _ (body : ℕ → Actions) (most : ℕ) (At : Spot → Processor → Type 0) (code : Implements setup p false body most At) where
    pub record DidE (s : State) (k least : ℕ) (text : List ℕ) (c : Came) (q : Queues) : Type 0 where
      pub after : Processor
      pub steps : ℕ
      pub ran : RanE setup s steps after q text
      pub agrees : Agrees At c after
      pub few : steps ≤ most * k
      pub some : least ≤ steps
      pub words : WordsWait s.queues → WordsWait q

    pub did_e : (m : List ℕ) (s : State) {k f l : ℕ} {a : Spot} {q q' : Queues} {text : List ℕ} {c : Came} → s.memory ≡ m → s.queues ≡ q → At a s.e → Does setup p false body m k f l a q text c q' → DidE s k l text c q'
    did_e m s {q = q} mem same at here = record {
      after = s.e;
      steps = 0;
      ran = record { picks = []; total = s.steps; runs = rw (append-nil s.printed) (ap (λ (r : Queues). Some (state_of s.a s.e r s.memory s.printed s.steps)) same); execute = tt; count = refl; moves' = refl };
      agrees = at;
      few = omega arith;
      some = omega arith;
      words = λ h. rw (← same) h;
    }
    did_e m s {a = a} {q' = q'} mem same at (on {k = k} {f = f} {l = l} {n = n} {q1 = q1} {uses = uses} {text = text} move grant fit rest) =
        let w = code.moves s.e at move fit in
        let granted : Grants setup.depths E s.memory f s.queues uses q1 = rw (mem, same) grant in
        let r = ran_e setup s w.walks granted in
        let s1 = state_of s.a w.after q1 s.memory (s.printed ++ texts uses) r.total in
        let d = did_e m s1 mem refl w.agrees rest in
        let o = d.ran in
        let few = w.few in let few' = d.few in let some = w.some in let some' = d.some in
        let c = r.count in let c' = o.count in let v = r.moves' in let v' = o.moves' in
        let lengths = length-append r.picks o.picks in
        let oftens = often-append is_e r.picks o.picks in
        let product = mul-add most (weight a) k in
        record {
          after = d.after;
          steps = w.steps + d.steps;
          ran = record {
            picks = r.picks ++ o.picks;
            total = o.total;
            runs = rw (← append_assoc s.printed (texts uses) text) (run-on (step setup) s s1 (state_of s.a d.after q' s.memory ((s.printed ++ texts uses) ++ text) o.total) r.picks o.picks r.runs o.runs);
            execute = execute-append r.picks o.picks r.execute o.execute;
            count = omega arith;
            moves' = omega arith;
          };
          agrees = d.agrees;
          few = omega arith;
          some = omega arith;
          words = λ h. d.words (words_wait granted w.words h);
        }
    did_e m s mem same at (stops {f = f} {last = last} {uses = uses} move grant fit) =
        let w = code.moves s.e at move fit in
        let granted : Grants setup.depths E s.memory f s.queues uses last = rw (mem, same) grant in
        let r = ran_e setup s w.walks granted in
        let few = w.few in
        record { after = w.after; steps = w.steps; ran = r; agrees = w.agrees; few = omega arith; some = w.some; words = words_wait granted w.words }

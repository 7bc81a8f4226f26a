-- A walk that the queues grant is a run of the machine.
use Rattle.std.proofs.Common.{◌≡◌, ℕ, ◌+◌, Bool, true, List, [], ◌∷◌, ◌++◌, refl, ap, ◌∙◌, append_assoc, append-nil, arith}
use Rattle.std.specs.Prelude.{Some, option_map}
use Rattle.dae_base.specs.declared.Side.TheVariants.{A, E}
use Rattle.dae_base.specs.declared.Queue.TheVariants.{Al}
use Rattle.dae_encode.specs.declared.QueueUse.TheVariants.{Load}
use Rattle.dae_encode.specs.Processor.{Processor}
use Rattle.dae_core.specs.Queues.{Queues, peek, commit}
use Rattle.dae_machine.specs.declared.Pick.{Pick}
use Rattle.dae_machine.specs.declared.Pick.TheVariants.{A as MoveA, E as MoveE, Fill}
use Rattle.dae_machine.specs.Runs.{often}
use Rattle.dae_machine.specs.Machine.{Setup, State, step, filled}
use Rattle.dae_machine.specs.Uses.{Use, Takes, Pushes, Reserves, Sends, Says, access_of, put_by, given_by, said_by, texts, Puts}
use Rattle.dae_machine.specs.Walks.{Goes, Walks, stays, quiet, makes, Grants, ends, grants, owns, IsAccess, nothing, moves, loads, IsExecute, RanA, RanE, may_use}
use Rattle.dae_machine.proofs.Confluence.{run-step}
use Rattle.dae_machine.proofs.Grants.{ready_for}

same_commit : (u : Use) (word : ℕ) (q : Queues) → Puts u word → commit (access_of u) word q ≡ commit (access_of u) (put_by u) q
same_commit (Takes queue x) word q h = refl
same_commit (Pushes queue x) word q h = rw h refl
same_commit (Reserves queue kind address) word q h = rw h refl
same_commit (Sends width address) word q h = rw h refl
same_commit (Says text) word q h = refl

module _ (setup : Setup) where
  access_step : (s : State) (next : Processor) (u : Use) → Goes setup A s.a u next → may_use setup.depths A (access_of u) s.queues ≡ true → peek (access_of u) s.queues ≡ given_by u
      → step setup s MoveA ≡ Some (record s { a = next; queues = commit (access_of u) (put_by u) s.queues; steps = s.steps + 1 })
  access_step s next u g can same = rw (g.asks, ready_for setup.depths A (access_of u) s.queues can, same, g.does, same_commit u g.word s.queues g.puts) refl

  execute_step : (s : State) (next : Processor) (u : Use) → Goes setup E s.e u next → may_use setup.depths E (access_of u) s.queues ≡ true → peek (access_of u) s.queues ≡ given_by u
      → step setup s MoveE ≡ Some (record s { e = next; queues = commit (access_of u) (put_by u) s.queues; printed = s.printed ++ said_by u; steps = s.steps + 1 })
  execute_step s next u g can same = rw (g.asks, ready_for setup.depths E (access_of u) s.queues can, same, g.does, same_commit u g.word s.queues g.puts) refl

  pub ran_a : (s : State) {steps fills : ℕ} {uses : List Use} {p : Processor} {q : Queues} → Walks setup A s.a uses steps p → Grants setup.depths A s.memory fills s.queues uses q → RanA setup s steps fills p q
  ran_a s stays ends = record { picks = []; total = s.steps; runs = refl; access = nothing; count = omega arith; moves' = refl }
  ran_a s (quiet {next = next} g w) v =
      let t = record s { a = next; steps = s.steps + 1 } in
      let r = ran_a t w v in
      let c = r.count in let o = r.moves' in
      record { picks = MoveA ∷ r.picks; total = r.total; runs = run-step (step setup) s t _ MoveA r.picks (access_step s next (Says []) g refl refl) r.runs; access = moves r.access; count = omega arith; moves' = omega arith }
  ran_a s (makes {next = next} {u = u} g w) (grants can same v) =
      let t = record s { a = next; queues = commit (access_of u) (put_by u) s.queues; steps = s.steps + 1 } in
      let r = ran_a t w v in
      let c = r.count in let o = r.moves' in
      record { picks = MoveA ∷ r.picks; total = r.total; runs = run-step (step setup) s t _ MoveA r.picks (access_step s next u g can same) r.runs; access = moves r.access; count = omega arith; moves' = omega arith }
  ran_a s (makes {next = next} g w) (owns {next = q1} {kind = kind} {address = address} number can fills v) =
      let t = record s { a = next; queues = commit (Load Al kind) address s.queues; steps = s.steps + 1 } in
      let t1 = record s { a = next; queues = q1; steps = s.steps + 1 + 1 } in
      let r = ran_a t1 w v in
      let c = r.count in let o = r.moves' in
      let fill_it : step setup t (Fill A number) ≡ Some t1 = ap (option_map (filled t)) fills in
      record {
        picks = MoveA ∷ Fill A number ∷ r.picks;
        total = r.total;
        runs = run-step (step setup) s t _ MoveA (Fill A number ∷ r.picks) (access_step s next (Reserves Al kind address) g can refl) (run-step (step setup) t t1 _ (Fill A number) r.picks fill_it r.runs);
        access = loads r.access;
        count = omega arith;
        moves' = omega arith;
      }

  pub ran_e : (s : State) {steps : ℕ} {uses : List Use} {p : Processor} {q : Queues} → {fills : ℕ} → Walks setup E s.e uses steps p → Grants setup.depths E s.memory fills s.queues uses q → RanE setup s steps p q (texts uses)
  ran_e s stays ends = record { picks = []; total = s.steps; runs = rw append-nil refl; execute = tt; count = refl; moves' = refl }
  ran_e s (quiet {next = next} g w) v =
      let t = record s { e = next; steps = s.steps + 1 } in
      let h : step setup s MoveE ≡ Some t = execute_step s next (Says []) g refl refl ∙ ap (λ (text : List ℕ). Some (record t { printed = text })) (append-nil s.printed) in
      let r = ran_e t w v in
      let c = r.count in let o = r.moves' in
      record { picks = MoveE ∷ r.picks; total = r.total; runs = run-step (step setup) s t _ MoveE r.picks h r.runs; execute = (refl, r.execute); count = omega arith; moves' = omega arith }
  ran_e s (makes {next = next} {u = u} {uses = uses} g w) (grants can same v) =
      let t = record s { e = next; queues = commit (access_of u) (put_by u) s.queues; printed = s.printed ++ said_by u; steps = s.steps + 1 } in
      let r = ran_e t w v in
      let c = r.count in let o = r.moves' in
      record { picks = MoveE ∷ r.picks; total = r.total; runs = run-step (step setup) s t _ MoveE r.picks (execute_step s next u g can same) (rw (append_assoc s.printed (said_by u) (texts uses)) at r.runs); execute = (refl, r.execute); count = omega arith; moves' = omega arith }
  ran_e s (makes g w) (owns number can fills v) = absurd (cc can)

-- ---- one part after another

pub access-append : {ps qs : List Pick} → IsAccess ps → IsAccess qs → IsAccess (ps ++ qs)
access-append nothing b = b
access-append (moves a) b = moves (access-append a b)
access-append (loads a) b = loads (access-append a b)

pub often-append : (e : Pick → Bool) (ps qs : List Pick) → often e (ps ++ qs) ≡ often e ps + often e qs
often-append e [] qs = omega arith
often-append e (p ∷ ps) qs = let h = often-append e ps qs in omega arith

pub execute-append : (ps qs : List Pick) → IsExecute ps → IsExecute qs → IsExecute (ps ++ qs)
execute-append [] qs h k = k
execute-append (p ∷ ps) qs h k = (h.0, execute-append ps qs h.1 k)

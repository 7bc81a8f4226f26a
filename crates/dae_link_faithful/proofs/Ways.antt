-- Where a jump or the end of a list leads.
use Rattle.std.proofs.Common.{◌≡◌, ℕ, Bool, true, false, List, refl, ap, sym, subst}
use Rattle.dae_encode.specs.Processor.{Processor}
use Rattle.dae_machine.specs.Machine.{Setup}
use Rattle.dae_ir.specs.Code.{Done, Do, If, Loop}
use Rattle.dae_meaning.specs.Variables.{Env}
use Rattle.dae_ir.specs.Form.{Program}
use Rattle.dae_ir.specs.Streams.{Actions}
use Rattle.dae_machine_rounds.specs.Spots.{Behind, Ends, After, Body, Turn, Point, point, left, skipped, Spot, HeldCall}
use Rattle.dae_select_walks.specs.Walks.{Comes}
use Rattle.dae_select_walks.specs.Facts.{Facts, Hold, Outs, outs, Entails}
use Rattle.dae_select_walks.specs.Agrees.{Plan, Moment}
use Rattle.dae_select_walks.specs.Compiled.{Exit, Exits, GoesBack, begins_told}
use Rattle.dae_select_walks.proofs.LawsOfWalks.{comes_here, comes_more}
use Rattle.dae_link_faithful.specs.Made.{IsTight, IsClosed}
use Rattle.dae_link_faithful.proofs.Agree.{Around, body_exits, step_exits, TightAt, ClosedAt, s, entries, GoesOn, FitsCode, FitsBehind, LoopDone, BehindDone, Placed, StandsAt, At}

pub tight_map : (code code' : Actions) (b : Behind) → (IsTight code → IsTight code') → TightAt code b → TightAt code' b
tight_map code code' Ends f h = f h
tight_map code code' (After k b) f h = (tight_map code code' b f h.0, h.1)
tight_map code code' (Body x y k b) f h = h
tight_map code code' (Turn x y k b) f h = h

pub closed_map : (code code' : Actions) (b : Behind) → (IsClosed code → IsClosed code') → ClosedAt code b → ClosedAt code' b
closed_map code code' Ends f h = f h
closed_map code code' (After k b) f h = h
closed_map code code' (Body x y k b) f h = h
closed_map code code' (Turn x y k b) f h = h

module _ (setup : Setup) (plan : Plan) (p : Program) (body : ℕ → Actions) (most widest functions : ℕ) (answered : ℕ → Bool) where
  abbrev pub Stands_at : Spot → Processor → Type 0
  Stands_at at' q = StandsAt setup plan p body most widest functions answered at' q

  abbrev pub Placed_at : ℕ → Facts → Actions → Behind → Exit → Exits → Outs → Type 0
  Placed_at f known code b here x o = Placed setup plan p body most widest functions answered f known code b here x o

  abbrev pub Goes_on : ℕ → Exit → Moment → Processor → Type 0
  Goes_on f x m q = GoesOn setup plan p body most widest functions answered f x m q

  abbrev pub At_spot : Spot → Processor → Type 0
  At_spot at' q = At setup plan p body most widest functions answered at' q

  -- where it stands in a function that ends with a return, it agrees
  pub agrees_at : (code : Actions) (b : Behind) (env : Env) (frame top depth : ℕ) (calls : List HeldCall) (q : Processor) → Stands_at (record { point = point code b; env = env; frame = frame; top = top; depth = depth; calls = calls }) q → At_spot (record { point = point code b; env = env; frame = frame; top = top; depth = depth; calls = calls }) q
  agrees_at Done Ends env frame top depth calls q h = absurd h.placed.closed
  agrees_at Done (After k b) env frame top depth calls q h = h
  agrees_at Done (Body x y k b) env frame top depth calls q h = h
  agrees_at Done (Turn x y k b) env frame top depth calls q h = h
  agrees_at (Do m a k) b env frame top depth calls q h = h
  agrees_at (If m c x y k) b env frame top depth calls q h = h
  agrees_at (Loop m x y k) b env frame top depth calls q h = h

  -- a point, where it goes on, and what is known there
  pub record Leads_to (f : ℕ) (from : Exit) (facts : Facts) (at' : Point) : Type 0 where
    pub here : Exit
    pub exits' : Exits
    pub known : Facts
    pub out : Outs
    pub placed : Placed_at f known at'.code at'.behind here exits' out
    pub walks : (m : Moment) (q : Processor) → Goes_on f from m q → Comes (s setup plan p body most widest functions answered) 2 q (Goes_on f here m)
    pub entails : Entails facts known

  leads_from : {f : ℕ} {from from' : Exit} {facts facts' : Facts} {at' : Point} → from ≡ from' → facts ≡ facts' → Leads_to f from' facts' at' → Leads_to f from facts at'
  leads_from {f} {from} {from'} {facts} {facts'} {at'} e i h = subst (λ (x : Exit). Leads_to f x facts at') (sym e) (subst (λ (k : Facts). Leads_to f from' k at') (sym i) h)

  -- it stands there at once
  at_once : {f : ℕ} {from : Exit} {facts : Facts} {at' : Point} (here : Exit) (x : Exits) (known : Facts) (o : Outs) → Placed_at f known at'.code at'.behind here x o → from ≡ here → facts ≡ known → Leads_to f from facts at'
  at_once {f} {from} {facts} {at'} here x known o placed e i = record {
    here = here;
    exits' = x;
    known = known;
    out = o;
    placed = placed;
    walks = λ m q h. comes_here (s setup plan p body most widest functions answered) (subst (λ (z : Exit). Goes_on f z m q) e h);
    entails = λ env h. subst (λ (k : Facts). Hold k env) i h;
  }

  back_comes : (f : ℕ) (told : Bool) (end begin : Exit) → GoesBack (s setup plan p body most widest functions answered) plan p (entries setup plan p body most widest functions answered) most widest f told end begin
      → (m : Moment) (q : Processor) → Goes_on f end m q → Comes (s setup plan p body most widest functions answered) 2 q (Goes_on f begin m)
  back_comes f true end begin back m q h = back m q h
  back_comes f false end begin back m q h = (let a = back m q h in comes_more (s setup plan p body most widest functions answered) a.1.goes a.1.holds)

  -- from behind a loop's step to where the next turn begins
  pub back_leads : (f : ℕ) (x y k : Actions) (b : Behind) (l : Around) (z : Exits) (o : Outs) (d : LoopDone setup plan p body most widest functions answered f x y k l z o) → BehindDone setup plan p body most widest functions answered f b z o → FitsCode setup plan p body most widest functions answered f x → FitsCode setup plan p body most widest functions answered f y
      → FitsCode setup plan p body most widest functions answered f k → FitsBehind setup plan p body most widest functions answered f b → TightAt k b → ClosedAt k b → Leads_to f l.end d.turn (point x (Body x y k b))
  back_leads f x y k b l z o d next fx fy fk fb tight closed = record {
    here = l.begin;
    exits' = body_exits l;
    known = d.turn;
    out = outs d.again d.next d.again;
    placed = record { done = d.in_body; next = (l, z, refl, o, d, refl, next); fits = fx; fits_next = (fx, fy, fk, fb); tight = tight; closed = closed };
    walks = back_comes f (begins_told x) l.end l.begin d.back;
    entails = λ env h. h;
  }

  pub left_leads : (f : ℕ) (b : Behind) (x : Exits) (o : Outs) (c d : Actions) → (IsTight c → ⊥) → TightAt c b → ClosedAt d b → BehindDone setup plan p body most widest functions answered f b x o → FitsBehind setup plan p body most widest functions answered f b → Leads_to f x.leaves o.leaves (left b)
  left_leads f Ends x o c d never tight closed next fits = absurd (never tight)
  left_leads f (After k b) x o c d never tight closed next fits =
      leads_from (ap (λ (e : Exits). e.leaves) next.2) (ap (λ (e : Outs). e.leaves) next.5) (left_leads f b next.1 next.4 c k never tight.0 closed next.7 fits.1)
  left_leads f (Body x' y k b) x o c d never tight closed next fits =
      at_once next.0.next next.1 next.4.next next.3 (record { done = next.4.rest; next = next.6; fits = fits.2; fits_next = fits.3; tight = tight; closed = closed }) (ap (λ (e : Exits). e.leaves) next.2) (ap (λ (e : Outs). e.leaves) next.5)
  left_leads f (Turn x' y k b) x o c d never tight closed next fits =
      at_once next.0.next next.1 next.4.next next.3 (record { done = next.4.rest; next = next.6; fits = fits.2; fits_next = fits.3; tight = tight; closed = closed }) (ap (λ (e : Exits). e.leaves) next.2) (ap (λ (e : Outs). e.leaves) next.5)

  pub skipped_leads : (f : ℕ) (b : Behind) (x : Exits) (o : Outs) (c d : Actions) → (IsTight c → ⊥) → TightAt c b → ClosedAt d b → BehindDone setup plan p body most widest functions answered f b x o → FitsBehind setup plan p body most widest functions answered f b → Leads_to f x.skips o.skips (skipped b)
  skipped_leads f Ends x o c d never tight closed next fits = absurd (never tight)
  skipped_leads f (After k b) x o c d never tight closed next fits =
      leads_from (ap (λ (e : Exits). e.skips) next.2) (ap (λ (e : Outs). e.skips) next.5) (skipped_leads f b next.1 next.4 c k never tight.0 closed next.7 fits.1)
  skipped_leads f (Body x' y k b) x o c d never tight closed next fits =
      at_once next.0.again (step_exits next.0) next.4.again (outs next.4.turn next.4.next next.4.turn) (record { done = next.4.in_step; next = (next.0, next.1, refl, next.3, next.4, refl, next.6); fits = fits.1; fits_next = fits; tight = tight; closed = closed }) (ap (λ (e : Exits). e.skips) next.2) (ap (λ (e : Outs). e.skips) next.5)
  skipped_leads f (Turn x' y k b) x o c d never tight closed next fits =
      leads_from (ap (λ (e : Exits). e.skips) next.2) (ap (λ (e : Outs). e.skips) next.5) (back_leads f x' y k b next.0 next.1 next.3 next.4 next.6 fits.0 fits.1 fits.2 fits.3 tight closed)

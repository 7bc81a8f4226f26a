-- A function of which no load is repeated, and so as it is.
use Rattle.std.proofs.Common.{◌≡◌, ℕ, zero, suc, ◌+◌, Bool, true, false, List, [], ◌∷◌, Option, Some, None, refl, ap, sym, ◌∙◌, arith}
use Rattle.std.specs.List.{list_any}
use Rattle.dae_base.specs.declared.Place.{Place}
use Rattle.dae_base.specs.declared.LoadKind.{LoadKind}
use Rattle.dae_ir.specs.Code.{Done, Do, If, Loop}
use Rattle.dae_ir.specs.Form.{Form, form_of}
use Rattle.dae_ir.specs.declared.form.Operand.{Operand}
use Rattle.dae_ir.specs.declared.form.Function.{Function}
use Rattle.dae_ir.specs.declared.form.Item.TheVariants.{Assign, Load, Store, Print, Expect, Break, Continue, Call, Return, Halt}
use Rattle.dae_alias.specs.declared.held.Held.{Held}
use Rattle.dae_alias.specs.Stretches.{KnownInStretch, nothing, symbol, after}
use Rattle.dae_alias.specs.Reuse.{Holders, held_in, still_held, loads_in, has_no_load, known_behind, held_behind, turned, reused, is_repeated}
use Rattle.dae_alias.specs.Laws.{sum_from, one, own_variables}
use Rattle.dae_alias.specs.Marking.{marked, AreRepeated}
use Rattle.dae_alias.specs.Forms.{IsReusedFunction}
use Rattle.dae_alias.proofs.NoLoads.{none_repeated}

-- no load has a variable of its own
abbrev nobody : Holders
nobody i = None

load_stays : (place : Place) (v : ℕ) (kind : LoadKind) (x : Operand) (o : Option Held) (k : Form) → turned place v kind x o None k ≡ Do place (Load v kind x) k
load_stays place v kind x None k = refl
load_stays place v kind x (Some e) k = refl

stays : (code : Form) (s : KnownInStretch) (held : List Held) (l : ℕ) → reused nobody s held l code ≡ code
stays Done s held l = refl
stays (Do place (Assign v x) k) s held l = ap (λ (c : Form). Do place (Assign v x) c) (stays k (after s (Assign v x)) held l)
stays (Do place (Load v kind x) k) s held l =
    let given : Option Held = held_in held kind (symbol s x) in
    load_stays place v kind x given (reused nobody (known_behind s v given) (held_behind s held l v kind x given) (suc l) k)
    ∙ ap (λ (c : Form). Do place (Load v kind x) c) (stays k (known_behind s v given) (held_behind s held l v kind x given) (suc l))
stays (Do place (Store width x y) k) s held l = ap (λ (c : Form). Do place (Store width x y) c) (stays k s (still_held held (symbol s x) width) l)
stays (Do place (Expect check) k) s held l = ap (λ (c : Form). Do place (Expect check) c) (stays k s held l)
stays (Do place (Print spelling x) k) s held l = ap (λ (c : Form). Do place (Print spelling x) c) (stays k nothing [] l)
stays (Do place Break k) s held l = ap (λ (c : Form). Do place Break c) (stays k nothing [] l)
stays (Do place Continue k) s held l = ap (λ (c : Form). Do place Continue c) (stays k nothing [] l)
stays (Do place (Call v f xs) k) s held l = ap (λ (c : Form). Do place (Call v f xs) c) (stays k nothing [] l)
stays (Do place (Return x) k) s held l = ap (λ (c : Form). Do place (Return x) c) (stays k nothing [] l)
stays (Do place (Halt x) k) s held l = ap (λ (c : Form). Do place (Halt x) c) (stays k nothing [] l)
stays (If place t p q k) s held l =
    ap (λ (c : Form). If place t c (reused nobody nothing [] (l + loads_in p) q) (reused nobody nothing [] (l + loads_in p + loads_in q) k)) (stays p nothing [] l)
    ∙ ap (λ (c : Form). If place t p c (reused nobody nothing [] (l + loads_in p + loads_in q) k)) (stays q nothing [] (l + loads_in p))
    ∙ ap (λ (c : Form). If place t p q c) (stays k nothing [] (l + loads_in p + loads_in q))
stays (Loop place p q k) s held l =
    ap (λ (c : Form). Loop place c (reused nobody nothing [] (l + loads_in p) q) (reused nobody nothing [] (l + loads_in p + loads_in q) k)) (stays p nothing [] l)
    ∙ ap (λ (c : Form). Loop place p c (reused nobody nothing [] (l + loads_in p + loads_in q) k)) (stays q nothing [] (l + loads_in p))
    ∙ ap (λ (c : Form). Loop place p q c) (stays k nothing [] (l + loads_in p + loads_in q))

none_own : (start count : ℕ) → sum_from (λ i. one (nobody i)) start count ≡ 0
none_own start zero = refl
none_own start (suc count) = let rest = none_own (suc start) count in omega (arith, rest)

none_marked : (marks : List Bool) → list_any (λ (mark : Bool). mark) marks ≡ false → (i : ℕ) → marked marks i ≡ false
none_marked [] none i = refl
none_marked (true ∷ marks) none i = absurd (cc)
none_marked (false ∷ marks) none zero = refl
none_marked (false ∷ marks) none (suc i) = none_marked marks none i

module _ (f : Function) where
  stays_whole : ((i : ℕ) → is_repeated i nothing [] 0 (form_of f.body) ≡ false) → IsReusedFunction f f
  stays_whole none = record {
    holders = nobody;
    name = refl;
    parameters = refl;
    frame = refl;
    body = sym (stays (form_of f.body) nothing [] 0);
    variables = (let own : own_variables nobody (form_of f.body) ≡ 0 = none_own 0 (loads_in (form_of f.body)) in omega (arith, own));
    inside = λ i u is. (let no : None ≡ Some u = is in absurd cc);
    apart = λ i j u is also. (let no : None ≡ Some u = is in absurd cc);
    repeated = λ i is. (let unrepeated = none i in absurd cc);
    only = λ i u is. (let no : None ≡ Some u = is in absurd cc);
  }

  pub unrepeated_function : (marks : List Bool) → AreRepeated f.body marks → list_any (λ (mark : Bool). mark) marks ≡ false → IsReusedFunction f f
  unrepeated_function marks a none = stays_whole (λ i. sym (a.told i) ∙ none_marked marks none i)

  pub unloaded_function : has_no_load (form_of f.body) ≡ true → IsReusedFunction f f
  unloaded_function h = stays_whole (λ i. none_repeated i (form_of f.body) nothing [] 0 h)

-- Laws that crates above cite: words spell at most one job.
use Rattle.std.proofs.Common.{◌≡◌, ℕ, suc, ◌<◌, ◌^◌, nat_eq, if◌then◌else◌, List, [], ◌∷◌, ◌++◌, get_or, drop, map, refl, ap, sym, ◌∙◌, subst, arith}
use Rattle.std.specs.Prelude.{Option, None, Some, decimal}
use Rattle.std.proofs.Props.{props}
use Rattle.std.specs.Str.Parse.{digits_value}
use Rattle.std.proofs.lemmas.Fmt.{decimal_is_IsNumeral}
use Rattle.dae_base.specs.declared.Depths.{Depths}
use Rattle.dae_base.proofs.Laws.{Lacks}
use Rattle.dae_machine.specs.declared.Schedule.{Schedule}
use Rattle.dae_machine.specs.declared.Schedule.TheVariants.{Round, A, E, Fill, Drain, Seed}
use Rattle.dae_cli_options.specs.Options.{AreCosts, AreInRange}
use Rattle.dae_cli_options.specs.declared.options.Costs.{Costs}
use Rattle.dae_cli_options.specs.declared.options.Options.{Options}
use Rattle.dae_cli_options.specs.declared.options.RunOptions.{RunOptions}
use Rattle.dae_cli_options.specs.declared.options.Shown.{Shown}
use Rattle.dae_cli_options.specs.Spelling.{SpellsNumber}
use Rattle.dae_cli_settings.specs.Settings.{AreSettings, OptionSetting, given, text_of}
use Rattle.dae_cli_settings.proofs.Laws.{same_settings}
use Rattle.dae_cli_words.specs.declared.command.Command.{Command}
use Rattle.dae_cli_words.specs.declared.command.Command.TheVariants as cmd
use Rattle.dae_cli_words.specs.declared.values.Chosen.{Chosen}
use Rattle.dae_cli_words.specs.Asked.{Asked, Big, Compile, Exec, Trace, Time, Check, Debug, Guard, Asm, Dis}
use Rattle.dae_cli_words.specs.Values.{AreChosen, AreCostsOf, AreDepthsOf, IsChosen, IsCompilingOf, IsNumber, IsRunOf, IsSchedule, IsShown, SpellsMemory, SpellsSchedule, SpellsSomeShown, schedule_text, shown_text}
use Rattle.dae_cli_words.specs.Words.{AskFor, AsksFor, IsKept, SpellsJob, names_of}
use Rattle.dae_cli_words.proofs.Fronts.{files_plain, same_middle}
use Rattle.dae_cli_words.proofs.Commands.{names_ok, same_command, settings_dashed}
use Rattle.dae_cli_words.proofs.Spelling.{no_comma_in}

-- ---- numbers and parts of a text

value : (n : ℕ) → n < 2 ^ 64 → digits_value 10 (decimal n) ≡ n
value n small = (decimal_is_IsNumeral n small).1

same_number : (m n : ℕ) → m < 2 ^ 64 → n < 2 ^ 64 → decimal m ≡ decimal n → m ≡ n
same_number m n a b h = sym (value m a) ∙ ap (λ (t : List ℕ). digits_value 10 t) h ∙ value n b

same_parts : (c : ℕ) (xs ys us vs : List ℕ) → Lacks c xs → Lacks c us → xs ++ (c ∷ ys) ≡ us ++ (c ∷ vs) → (xs ≡ us) × (ys ≡ vs)
same_parts c [] ys [] vs l m h = (refl, cc)
same_parts c [] ys (u ∷ us) vs l m h = absurd (m 0 (omega arith) (cc))
same_parts c (x ∷ xs) ys [] vs l m h = absurd (l 0 (omega arith) (cc))
same_parts c (x ∷ xs) ys (u ∷ us) vs l m h =
    let first : x ≡ u = cc in
    let rest = same_parts c xs ys us vs (λ i k. l (suc i) (omega arith)) (λ i k. m (suc i) (omega arith)) (cc) in
    (rw (first, rest.0) refl, rest.1)

-- ---- values

abbrev schedule_at : ℕ → ℕ → Schedule
schedule_at a n =
    if nat_eq a 114 then Round
    else if nat_eq a 97 then A
    else if nat_eq a 101 then E
    else if nat_eq a 102 then Fill
    else if nat_eq a 100 then Drain
    else Seed n

-- the schedule that a text spells
abbrev schedule_of : List ℕ → Schedule
schedule_of text = schedule_at (get_or text 0 0) (digits_value 10 (drop 5 text))

schedule_is : (s : Schedule) → IsSchedule s → schedule_of (schedule_text s) ≡ s
schedule_is Round h = refl
schedule_is A h = refl
schedule_is E h = refl
schedule_is Fill h = refl
schedule_is Drain h = refl
schedule_is (Seed n) h = ap Seed (value n (let w = h.most_is in omega arith))

same_schedule : (s t : Schedule) → IsSchedule s → IsSchedule t → schedule_text s ≡ schedule_text t → s ≡ t
same_schedule s t a b h = sym (schedule_is s a) ∙ ap schedule_of h ∙ schedule_is t b

same_shown : (s t : Shown) → IsShown s → IsShown t → shown_text s ≡ shown_text t → s ≡ t
same_shown s t a b h =
    let parts = same_parts 44 (decimal s.address) (decimal s.count) (decimal t.address) (decimal t.count) (no_comma_in s.address a.address) (no_comma_in t.address b.address) h in
    let sa = a.address.most_is in
    let ta = b.address.most_is in
    let sc = a.count.most_is in
    let tc = b.count.most_is in
    let address : s.address ≡ t.address = same_number s.address t.address (omega arith) (omega arith) parts.0 in
    let count : s.count ≡ t.count = same_number s.count t.count (omega arith) (omega arith) parts.1 in
    let same : record { address = s.address; count = s.count } ≡ record { address = t.address; count = t.count } = rw (address, count) refl in
    same

-- ---- what is chosen

same_choice : {X : Type 0} (Spells : List ℕ → X → Type 0) (usual : X) (o : Option (List ℕ)) (x y : X) → ((text : List ℕ) → Spells text x → Spells text y → x ≡ y) → IsChosen Spells usual o x → IsChosen Spells usual o y → x ≡ y
same_choice {X} Spells usual None x y one h k = h ∙ sym k
same_choice {X} Spells usual (Some text) x y one h k = one text h k

one_spelled : (least most : ℕ) → most < 2 ^ 64 → (text : List ℕ) (m n : ℕ) → SpellsNumber least most text m → SpellsNumber least most text n → m ≡ n
one_spelled least most small text m n h k =
    let a = h.within.most_is in
    let b = k.within.most_is in
    same_number m n (omega arith) (omega arith) (sym h.text_is ∙ k.text_is)

one_number : (least most usual : ℕ) → most < 2 ^ 64 → (o : Option (List ℕ)) (m n : ℕ) → IsNumber least most usual o m → IsNumber least most usual o n → m ≡ n
one_number least most usual small o m n h k = same_choice (SpellsNumber least most) usual o m n (λ text. one_spelled least most small text m n) h k

one_memory : (o : Option (List ℕ)) (m n : ℕ) → IsChosen SpellsMemory 1048576 o m → IsChosen SpellsMemory 1048576 o n → m ≡ n
one_memory o m n h k = same_choice SpellsMemory 1048576 o m n (λ text a b.
    let p = a.in_range.within.most_is in
    let q = b.in_range.within.most_is in
    same_number m n (omega arith) (omega arith) (sym a.text_is ∙ b.text_is)) h k

one_schedule : (o : Option (List ℕ)) (s t : Schedule) → IsChosen SpellsSchedule Round o s → IsChosen SpellsSchedule Round o t → s ≡ t
one_schedule o s t h k = same_choice SpellsSchedule Round o s t (λ text a b. same_schedule s t a.in_range b.in_range (sym a.text_is ∙ b.text_is)) h k

some_shown : (text : List ℕ) (s t : Option Shown) → SpellsSomeShown text s → SpellsSomeShown text t → s ≡ t
some_shown text None t h k = absurd h
some_shown text (Some s) None h k = absurd k
some_shown text (Some s) (Some t) h k = ap Some (same_shown s t h.in_range k.in_range (sym h.text_is ∙ k.text_is))

one_shown : (o : Option (List ℕ)) (s t : Option Shown) → IsChosen SpellsSomeShown None o s → IsChosen SpellsSomeShown None o t → s ≡ t
one_shown o s t h k = same_choice SpellsSomeShown None o s t (λ text. some_shown text s t) h k

-- options are their three numbers
abbrev options_with : (memory calls cap : ℕ) → AreInRange memory calls cap → Options
options_with memory calls cap ranges = record { memory = memory; calls = calls; cap = cap; ranges = ranges }

one_range : (memory calls cap : ℕ) → IsProp (AreInRange memory calls cap)
one_range memory calls cap = hlevel props

by_numbers : (x y : Options) → x.memory ≡ y.memory → x.calls ≡ y.calls → x.cap ≡ y.cap → x ≡ y
by_numbers x y e f g =
    subst (λ (m : ℕ). (r : AreInRange m y.calls y.cap) → x ≡ options_with m y.calls y.cap r) e
    (subst (λ (k : ℕ). (r : AreInRange x.memory k y.cap) → x ≡ options_with x.memory k y.cap r) f
    (subst (λ (k : ℕ). (r : AreInRange x.memory x.calls k) → x ≡ options_with x.memory x.calls k r) g
    (λ r. ap (options_with x.memory x.calls x.cap) (one_range x.memory x.calls x.cap x.ranges r)))) y.ranges

abbrev costs_with : (load mul div : ℕ) → AreCosts load mul div → Costs
costs_with load mul div ranges = record { load = load; mul = mul; div = div; ranges = ranges }

one_costs : (load mul div : ℕ) → IsProp (AreCosts load mul div)
one_costs load mul div = hlevel props

by_costs : (x y : Costs) → x.load ≡ y.load → x.mul ≡ y.mul → x.div ≡ y.div → x ≡ y
by_costs x y e f g =
    subst (λ (m : ℕ). (r : AreCosts m y.mul y.div) → x ≡ costs_with m y.mul y.div r) e
    (subst (λ (k : ℕ). (r : AreCosts x.load k y.div) → x ≡ costs_with x.load k y.div r) f
    (subst (λ (k : ℕ). (r : AreCosts x.load x.mul k) → x ≡ costs_with x.load x.mul k r) g
    (λ r. ap (costs_with x.load x.mul x.div) (one_costs x.load x.mul x.div x.ranges r)))) y.ranges

module _ (found : List ℕ → Option (List ℕ)) where
  depth_same : (o : Option (List ℕ)) (m n : ℕ) → IsNumber 1 4096 8 o m → IsNumber 1 4096 8 o n → m ≡ n
  depth_same o m n h k = one_number 1 4096 8 (omega arith) o m n h k

  same_depths : (d e : Depths) → AreDepthsOf found d → AreDepthsOf found e → d ≡ e
  same_depths d e h k =
      let ld = depth_same _ d.ld e.ld h.ld k.ld in
      let al = depth_same _ d.al e.al h.al k.al in
      let sa = depth_same _ d.sa e.sa h.sa k.sa in
      let sd = depth_same _ d.sd e.sd h.sd k.sd in
      let ab = depth_same _ d.ab e.ab h.ab k.ab in
      let eb = depth_same _ d.eb e.eb h.eb k.eb in
      let cq = depth_same _ d.cq e.cq h.cq k.cq in
      λ i. record { ld = ld i; al = al i; sa = sa i; sd = sd i; ab = ab i; eb = eb i; cq = cq i }

  same_run : (o p : RunOptions) → IsRunOf found o → IsRunOf found p → o ≡ p
  same_run o p h k =
      let depths = same_depths o.depths p.depths h.depths k.depths in
      let schedule = one_schedule _ o.schedule p.schedule h.schedule k.schedule in
      let steps = one_number 1 1000000000000 10000000 (omega arith) _ o.steps p.steps h.steps k.steps in
      let show = one_shown _ o.show p.show h.show k.show in
      λ i. record { depths = depths i; schedule = schedule i; steps = steps i; show = show i }

  same_compiling : (c d : Options) → IsCompilingOf found c → IsCompilingOf found d → c ≡ d
  same_compiling c d h k = by_numbers c d (one_memory _ c.memory d.memory h.memory k.memory)
      (one_number 1 4096 1000 (omega arith) _ c.calls d.calls h.calls k.calls) (one_number 1 64 4 (omega arith) _ c.cap d.cap h.cap k.cap)

  same_costs : (c d : Costs) → AreCostsOf found c → AreCostsOf found d → c ≡ d
  same_costs c d h k = by_costs c d (one_number 1 1000 8 (omega arith) _ c.load d.load h.load k.load)
      (one_number 1 1000 3 (omega arith) _ c.mul d.mul h.mul k.mul) (one_number 1 1000 20 (omega arith) _ c.div d.div h.div k.div)

  same_chosen : (c d : Chosen) → AreChosen found c → AreChosen found d → c ≡ d
  same_chosen c d h k =
      let compiling = same_compiling c.compiling d.compiling h.compiling k.compiling in
      let running = same_run c.running d.running h.running k.running in
      let costs = same_costs c.costs d.costs h.costs k.costs in
      let ticks = one_number 1 100000000000 10000000 (omega arith) _ c.ticks d.ticks h.ticks k.ticks in
      λ i. record { compiling = compiling i; running = running i; costs = costs i; ticks = ticks i }

-- ---- the job

one_file : (files : List (List ℕ)) (m n : List ℕ) → files ≡ m ∷ [] → files ≡ n ∷ [] → m ≡ n
one_file files m n h k = let e : m ∷ [] ≡ n ∷ [] = sym h ∙ k in cc

two_files : (files : List (List ℕ)) (m n p q : List ℕ) → files ≡ m ∷ n ∷ [] → files ≡ p ∷ q ∷ [] → (m ≡ p) × (n ≡ q)
two_files files m n p q h k = let e : m ∷ n ∷ [] ≡ p ∷ q ∷ [] = sym h ∙ k in (cc, cc)

module _ (found : List ℕ → Option (List ℕ)) (chosen : Chosen) (files : List (List ℕ)) where
  same_kept : (m n : List ℕ) → IsKept found m → IsKept found n → m ≡ n
  same_kept m n h k = let e : Some m ≡ Some n = sym h.is_given ∙ k.is_given in cc

  same_asked : (c : Command) (j k : Asked) → AsksFor c found chosen files j → AsksFor c found chosen files k → j ≡ k
  same_asked cmd.Run j k h g = h ∙ sym g
  same_asked cmd.Big j k (t, m, e, s, h) (u, n, f, r, g) =
      let text = one_file files t u e f in
      let number = one_spelled 1 900 (omega arith) u m n (subst (λ (x : List ℕ). SpellsNumber 1 900 x m) text s) r in
      h ∙ ap (λ (x : ℕ). Big chosen.compiling chosen.running x) number ∙ sym g
  same_asked cmd.Compile j k (to, is, h) (to', is', g) = h ∙ ap (λ (x : List ℕ). Compile chosen.compiling x files) (same_kept to to' is is') ∙ sym g
  same_asked cmd.Report j k h g = h ∙ sym g
  same_asked cmd.Exec j k (m, e, h) (n, f, g) = h ∙ ap (λ (x : List ℕ). Exec chosen.running x) (one_file files m n e f) ∙ sym g
  same_asked cmd.Trace j k (m, e, h) (n, f, g) = h ∙ ap (λ (x : List ℕ). Trace chosen.running x) (one_file files m n e f) ∙ sym g
  same_asked cmd.Time j k (m, e, h) (n, f, g) = h ∙ ap (λ (x : List ℕ). Time chosen.running chosen.costs chosen.ticks x) (one_file files m n e f) ∙ sym g
  same_asked cmd.Check j k (m, n, e, h) (p, q, f, g) =
      let both = two_files files m n p q e f in
      h ∙ ap (λ (x : List ℕ). Check chosen.running.depths x n) both.0 ∙ ap (λ (x : List ℕ). Check chosen.running.depths p x) both.1 ∙ sym g
  same_asked cmd.Debug j k (m, n, e, h) (p, q, f, g) =
      let both = two_files files m n p q e f in
      h ∙ ap (λ (x : List ℕ). Debug chosen.running.depths x n) both.0 ∙ ap (λ (x : List ℕ). Debug chosen.running.depths p x) both.1 ∙ sym g
  same_asked cmd.Guard j k (m, n, e, h) (p, q, f, g) =
      let both = two_files files m n p q e f in
      h ∙ ap (λ (x : List ℕ). Guard chosen.running.depths x n) both.0 ∙ ap (λ (x : List ℕ). Guard chosen.running.depths p x) both.1 ∙ sym g
  same_asked cmd.Asm j k (to, m, is, e, h) (to', n, is', f, g) =
      h ∙ ap (λ (x : List ℕ). Asm x m) (same_kept to to' is is') ∙ ap (λ (x : List ℕ). Asm to' x) (one_file files m n e f) ∙ sym g
  same_asked cmd.Dis j k (m, e, h) (n, f, g) = h ∙ ap (λ (x : List ℕ). Dis x) (one_file files m n e f) ∙ sym g

one_ask : (c : Command) (found : List ℕ → Option (List ℕ)) (files : List (List ℕ)) (j k : Asked) → AskFor c found files j → AskFor c found files k → j ≡ k
one_ask c found files j k h g =
    let same = same_chosen found h.chosen g.chosen h.are_chosen g.are_chosen in
    same_asked found g.chosen files c j k (subst (λ (x : Chosen). AsksFor c found x files j) same h.asks) g.asks

-- words spell at most one job
pub one_job : {words : List (List ℕ)} {job other : Asked} → SpellsJob words job → SpellsJob words other → job ≡ other
one_job {words} {job} {other} h k =
    let e = sym h.words_are ∙ k.words_are in
    let command : h.command ≡ k.command = same_command h.command k.command (cc) in
    let parts = same_middle (map text_of h.settings) (map text_of k.settings) h.files k.files (settings_dashed h.settings) (settings_dashed k.settings) (files_plain h.files h.are_files) (files_plain k.files k.are_files) (cc) in
    let set = subst (λ (c : Command). AreSettings (names_of c) h.settings) command h.are_settings in
    let settings = same_settings (names_of k.command) h.settings k.settings (names_ok k.command) set k.are_settings parts.0 in
    let asks = subst (λ (c : Command). AskFor c (given h.settings) h.files job) command h.asks in
    let asks' = subst (λ (ss : List OptionSetting). AskFor k.command (given ss) h.files job) settings asks in
    one_ask k.command (given k.settings) k.files job other (subst (λ (fs : List (List ℕ)). AskFor k.command (given k.settings) fs job) parts.1 asks') k.asks

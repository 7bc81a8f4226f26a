-- The values of options: their spellings, their ranges, and what stands where an option isn't set.
use Rattle.std.specs.Prelude.{◌≡◌, ℕ, ◌%◌, List, ◌∷◌, ◌++◌, codes, decimal, Option, None, Some, IsSomeAnd, MatchOption}
use Rattle.dae_base.specs.declared.Depths.{Depths}
use Rattle.dae_machine.specs.declared.Schedule.{Schedule}
use Rattle.dae_machine.specs.declared.Schedule.TheVariants.{Round, A, E, Fill, Drain, Seed}
use Rattle.dae_cli_options.specs.Ranges.{IsFromTo}
use Rattle.dae_cli_options.specs.declared.options.Costs.{Costs}
use Rattle.dae_cli_options.specs.declared.options.Options.{Options}
use Rattle.dae_cli_options.specs.declared.options.RunOptions.{RunOptions}
use Rattle.dae_cli_options.specs.declared.options.Shown.{Shown}
use Rattle.dae_cli_options.specs.Spelling.{SpellsNumber}
use Rattle.dae_cli_words.specs.declared.values.Chosen.{Chosen}

-- the value found has the property, or there is None, and no value has it
abbrev pub FindsIfAny : {X : Type 0} → Option X → (X → Type 0) → Type 0
FindsIfAny found Has = MatchOption found ((x : _) → ¬ (Has x)) Has

-- ---- the one spelling of a value

abbrev pub schedule_text : Schedule → List ℕ
schedule_text Round = codes "round"
schedule_text A = codes "a"
schedule_text E = codes "e"
schedule_text Fill = codes "fill"
schedule_text Drain = codes "drain"
schedule_text (Seed n) = codes "seed" ++ 58 ∷ decimal n

abbrev pub IsSchedule : Schedule → Type 0
IsSchedule (Seed n) = IsFromTo 0 4294967295 n
IsSchedule _ = Unit {0}

pub record SpellsSchedule (text : List ℕ) (schedule : Schedule) : Type 0 where
  pub text_is : text ≡ schedule_text schedule
  pub in_range : IsSchedule schedule

abbrev pub shown_text : Shown → List ℕ
shown_text shown = decimal shown.address ++ 44 ∷ decimal shown.count

pub record IsShown (shown : Shown) : Type 0 where
  pub address : IsFromTo 0 4294967295 shown.address
  pub count : IsFromTo 1 64 shown.count

pub record SpellsShown (text : List ℕ) (shown : Shown) : Type 0 where
  pub text_is : text ≡ shown_text shown
  pub in_range : IsShown shown

abbrev pub SpellsSomeShown : List ℕ → Option Shown → Type 0
SpellsSomeShown text shown = IsSomeAnd shown (SpellsShown text)

pub record IsMemory (n : ℕ) : Type 0 where
  pub within : IsFromTo 64 67108864 n
  pub aligned : n % 16 ≡ 0

pub record SpellsMemory (text : List ℕ) (n : ℕ) : Type 0 where
  pub text_is : text ≡ decimal n
  pub in_range : IsMemory n

-- ---- what is chosen by what is given to the options

-- what is spelled, or the usual value where nothing is given
abbrev pub IsChosen : {X : Type 0} → (Spells : List ℕ → X → Type 0) → (usual : X) → (text : Option (List ℕ)) → X → Type 0
IsChosen Spells usual None x = x ≡ usual
IsChosen Spells usual (Some text) x = Spells text x

abbrev pub IsNumber : (least most usual : ℕ) → (text : Option (List ℕ)) → ℕ → Type 0
IsNumber least most usual = IsChosen (SpellsNumber least most) usual

pub record AreDepthsOf (given : List ℕ → Option (List ℕ)) (d : Depths) : Type 0 where
  pub ld : IsNumber 1 4096 8 (given (codes "ld")) d.ld
  pub al : IsNumber 1 4096 8 (given (codes "al")) d.al
  pub sa : IsNumber 1 4096 8 (given (codes "sa")) d.sa
  pub sd : IsNumber 1 4096 8 (given (codes "sd")) d.sd
  pub ab : IsNumber 1 4096 8 (given (codes "ab")) d.ab
  pub eb : IsNumber 1 4096 8 (given (codes "eb")) d.eb
  pub cq : IsNumber 1 4096 8 (given (codes "cq")) d.cq

pub record IsRunOf (given : List ℕ → Option (List ℕ)) (o : RunOptions) : Type 0 where
  pub depths : AreDepthsOf given o.depths
  pub schedule : IsChosen SpellsSchedule Round (given (codes "schedule")) o.schedule
  pub steps : IsNumber 1 1000000000000 10000000 (given (codes "steps")) o.steps
  pub show : IsChosen SpellsSomeShown None (given (codes "show")) o.show

pub record IsCompilingOf (given : List ℕ → Option (List ℕ)) (c : Options) : Type 0 where
  pub memory : IsChosen SpellsMemory 1048576 (given (codes "memory")) c.memory
  pub calls : IsNumber 1 4096 1000 (given (codes "calls")) c.calls
  pub cap : IsNumber 1 64 4 (given (codes "cap")) c.cap

pub record AreCostsOf (given : List ℕ → Option (List ℕ)) (k : Costs) : Type 0 where
  pub load : IsNumber 1 1000 8 (given (codes "load")) k.load
  pub mul : IsNumber 1 1000 3 (given (codes "mul")) k.mul
  pub div : IsNumber 1 1000 20 (given (codes "div")) k.div

-- what all options choose: those that a command doesn't take aren't given, and have their usual values
pub record AreChosen (given : List ℕ → Option (List ℕ)) (chosen : Chosen) : Type 0 where
  pub compiling : IsCompilingOf given chosen.compiling
  pub running : IsRunOf given chosen.running
  pub costs : AreCostsOf given chosen.costs
  pub ticks : IsNumber 1 100000000000 10000000 (given (codes "ticks")) chosen.ticks

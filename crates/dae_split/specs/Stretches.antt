-- What a stretch of steps says of rounds, in the words of the task that makes it.
use Rattle.std.specs.Prelude.{◌≡◌, Bool, List, []}
use Rattle.dae_base.specs.declared.Place.{Place}
use Rattle.dae_ir.specs.Classes.{classes_of}
use Rattle.dae_ir.specs.Form.{Form}
use Rattle.dae_ir.specs.Rounds.{Rounds, Jump, Stand, Separates, placed, rounds, stand}
use Rattle.dae_ir.specs.Streams.{Actions, jump_action}
use Rattle.dae_ir.specs.declared.stream.Class.{Class}
use Rattle.dae_ir.specs.declared.form.Item.{Item}
use Rattle.dae_ir.specs.declared.stream.Action.{Action}
use Rattle.dae_ir.specs.declared.stream.Part.{Part}
use Rattle.dae_split.specs.Making.{is_a, lies_outside, projected, Makes}
use Rattle.dae_split.specs.declared.work.Stretch.{Stretch}
use Rattle.dae_split.specs.declared.work.Task.{Task}
use Rattle.dae_split.specs.declared.work.Zone.{Zone}

-- the new stretch, before what a side does of the rest, is the old one before what it does of all
abbrev pub Extends : (outside : Bool) → Task → List (List Class) → (old new : Stretch) → (rest all : Rounds) → Type 0
Extends outside t tables old new rest all =
    Makes (projected outside (is_a t.side) (classes_of tables) (classes_of tables t.function) t.cap)
    old.steps.items old.number new.steps.items new.number rest all

-- the rounds, where something stands behind the group of a stretch
abbrev pub placed_behind : Task → List (List Class) → Stretch → Place → Stand → (List Part → Rounds) → Rounds
placed_behind t tables x place s r = placed (classes_of tables t.function) t.cap x.group.items place s r

abbrev pub placed_item : Task → List (List Class) → Stretch → Place → Item → (List Part → Rounds) → Rounds
placed_item t tables x place item r = placed_behind t tables x place (stand (classes_of tables t.function) place item) r

-- the action of what stands between groups ends the group of a stretch
abbrev pub StandsAlone : Task → List (List Class) → (old new : Stretch) → Place → Action → Type 0
StandsAlone t tables old new place action =
    (outside : Bool) (jump : Jump) → jump_action (is_a t.side) (classes_of tables) (classes_of tables t.function) jump ≡ action
    → (r : List Part → Rounds) → Extends outside t tables old new (r new.group.items) (placed_behind t tables old place (Separates jump) r)

-- the rounds of statements, behind the group of a stretch
abbrev pub rounds_from : Zone → Task → List (List Class) → Stretch → Form → Rounds
rounds_from zone t tables x code = rounds (classes_of tables t.function) t.cap (lies_outside zone) code x.group.items

-- what a side does of a list of statements
abbrev pub list_of : Zone → Task → List (List Class) → Form → Actions
list_of zone t tables code =
    projected (lies_outside zone) (is_a t.side) (classes_of tables) (classes_of tables t.function) t.cap 0
    (rounds (classes_of tables t.function) t.cap (lies_outside zone) code [])

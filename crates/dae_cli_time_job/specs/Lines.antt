-- The lines that a timed run notes beside those of every run.
use Rattle.std.specs.Prelude.{ℕ, List, [], ◌∷◌, ◌++◌, codes, decimal}
use Rattle.std.specs.List.{flat_map}
use Rattle.dae_base.specs.declared.Queue.{Queue}
use Rattle.dae_base.specs.declared.Queue.TheVariants.{Ld, Al, Sa, Sd, Ab, Eb, Cq}
use Rattle.dae_base.specs.declared.Side.{Side}
use Rattle.dae_base.specs.declared.Side.TheVariants.{A, E}
use Rattle.dae_cli_drive.specs.Notes.{queue_name}
use Rattle.dae_cli_drive.specs.Puts.{Put, Note}
use Rattle.dae_timing.specs.declared.waits.Waits.{Waits}
use Rattle.dae_timing.specs.Clocks.{Clock, waits_for}

abbrev pub ticks_line : ℕ → List ℕ
ticks_line ticks = codes "ticks " ++ (decimal ticks ++ codes "\n")

-- the queues that a processor may wait for, in the order in which they are told
abbrev pub awaited : Side → List Queue
awaited A = Ld ∷ (Al ∷ (Sa ∷ (Ab ∷ (Eb ∷ (Cq ∷ [])))))
awaited E = Ld ∷ (Sd ∷ (Ab ∷ (Eb ∷ (Cq ∷ []))))

abbrev pub waits_front : Side → List ℕ
waits_front A = codes "waits A"
waits_front E = codes "waits E"

abbrev pub wait_front : Queue → List ℕ
wait_front queue = codes " " ++ (queue_name queue ++ codes " ")

-- a queue, and in how many ticks it was waited for
abbrev pub wait_text : Waits → Queue → List ℕ
wait_text waits queue = wait_front queue ++ decimal (waits_for queue waits)

abbrev pub waits_line : Side → Waits → List ℕ
waits_line side waits =
    waits_front side ++ (flat_map (wait_text waits) (awaited side) ++ codes "\n")

-- what is noted of a clock, each line in a put of its own
abbrev pub time_puts : Clock → List Put
time_puts c =
    Note (ticks_line c.ticks)
    ∷ (Note (waits_line A c.waits_a) ∷ (Note (waits_line E c.waits_e) ∷ []))

-- The replies that show a state.
use Rattle.std.specs.Prelude.{ℕ, zero, suc, List, [], ◌∷◌, ◌++◌, codes, decimal}
use Rattle.std.specs.List.{flat_map}
use Rattle.dae_base.specs.declared.Queue.{Queue}
use Rattle.dae_base.specs.declared.Queue.TheVariants.{Ld, Al, Sa, Sd, Ab, Eb, Cq}
use Rattle.dae_base.specs.declared.Width.{Width}
use Rattle.dae_base.specs.Words.{size}
use Rattle.dae_queues.specs.declared.StoreAt.{StoreAt}
use Rattle.dae_encode.specs.Processor.{Processor, held}
use Rattle.dae_core.specs.Queues.{Queues, count}
use Rattle.dae_trace.specs.Lines.{word_text}
use Rattle.dae_cli_drive.specs.Notes.{queue_name}

-- ---- the registers of a processor

abbrev pub counter_line : ℕ → List ℕ
counter_line counter = codes "pc " ++ (word_text counter ++ codes "\n")

abbrev pub register_line : ℕ → ℕ → List ℕ
register_line number value =
    codes "x" ++ (decimal number ++ (codes " " ++ (word_text value ++ codes "\n")))

-- the counter, and then x1 to the register of this number
abbrev pub registers_to : Processor → ℕ → List ℕ
registers_to p zero = counter_line p.counter
registers_to p (suc n) = registers_to p n ++ register_line (suc n) (held p (suc n))

abbrev pub registers_text : Processor → List ℕ
registers_text p = registers_to p 31

-- ---- the queues

abbrev pub queue_line : Queues → Queue → List ℕ
queue_line q queue = queue_name queue ++ (codes " " ++ (decimal (count queue q) ++ codes "\n"))

abbrev pub all_queues : List Queue
all_queues = Ld ∷ Al ∷ Sa ∷ Sd ∷ Ab ∷ Eb ∷ Cq ∷ []

-- how many items each holds
abbrev pub queues_text : Queues → List ℕ
queues_text q = flat_map (queue_line q) all_queues

abbrev pub store_line : ℕ → Width → List ℕ
store_line addr width =
    word_text addr ++ (codes " " ++ (decimal (size width) ++ codes "\n"))

-- the address and the width of each store that waits, the oldest first
abbrev pub stores_text : Queues → List ℕ
stores_text q = flat_map (λ (at : StoreAt). store_line at.addr at.width) q.stores.sa

-- ---- how many steps were taken

abbrev pub taken_text : ℕ → List ℕ
taken_text steps = codes "taken " ++ (decimal steps ++ codes "\n")

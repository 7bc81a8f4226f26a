-- What a queue shows, item by item.
use Rattle.std.specs.Prelude.{ℕ, List, map, None, Some}
use Rattle.dae_base.specs.declared.Queue.{Queue}
use Rattle.dae_base.specs.declared.Queue.TheVariants.{Ld, Al, Sa, Sd, Ab, Eb, Cq}
use Rattle.dae_base.specs.declared.Width.TheVariants.{B4}
use Rattle.dae_base.specs.Words.{width_of}
use Rattle.dae_queues.specs.declared.Slot.{Slot}
use Rattle.dae_queues.specs.declared.StoreAt.{StoreAt}
use Rattle.dae_core.specs.Queues.{Queues, words_of}
use Rattle.dae_machine.specs.declared.Entry.{Entry}

abbrev pub slot_entry : Slot → Entry
slot_entry s = record { number = s.number; addr = s.addr; width = width_of s.kind; value = s.value }

abbrev pub store_entry : StoreAt → Entry
store_entry a = record { number = a.number; addr = a.addr; width = a.width; value = None }

-- a queue of words has no numbers and no addresses
abbrev pub word_entry : ℕ → Entry
word_entry w = record { number = 0; addr = 0; width = B4; value = Some w }

abbrev pub entries : Queue → Queues → List Entry
entries Ld q = map slot_entry q.ld.slots
entries Al q = map slot_entry q.al.slots
entries Sa q = map store_entry q.stores.sa
entries Sd q = map word_entry (words_of Sd q)
entries Ab q = map word_entry (words_of Ab q)
entries Eb q = map word_entry (words_of Eb q)
entries Cq q = map word_entry (words_of Cq q)

-- Words that are pushed are words that wait.
use Rattle.std.proofs.Common.{◌≡◌, ℕ, ◌<◌, ◌^◌, List, [], ◌∷◌, ◌++◌, subst}
use Rattle.std.specs.List.{AllByRecursion}
use Rattle.std.specs.Prelude.{Some}
use Rattle.dae_base.proofs.Laws.{map_some_is}
use Rattle.dae_base.specs.declared.Side.{Side}
use Rattle.dae_base.specs.declared.Side.TheVariants.{A}
use Rattle.dae_base.specs.declared.Depths.{Depths}
use Rattle.dae_base.specs.declared.LoadKind.{LoadKind}
use Rattle.dae_base.specs.declared.Queue.{Queue}
use Rattle.dae_base.specs.declared.Queue.TheVariants.{Ld, Al, Sa, Sd, Ab, Eb, Cq}
use Rattle.dae_encode.specs.declared.QueueUse.TheVariants.{Load}
use Rattle.dae_queues.specs.Lists.{rest, with_value}
use Rattle.dae_core.specs.Queues.{Queues, commit, taken_from, pushed_to, reserved_in, with_loads_of, loads_of}
use Rattle.dae_machine.specs.Memory.{fill, filling}
use Rattle.dae_machine.specs.Uses.{Use, Takes, Pushes, Reserves, Sends, Says, access_of, put_by, PushesWord}
use Rattle.dae_machine.specs.Walks.{Grants, ends, grants, owns, AreWords, WordsWait}

rest_words : (xs : List ℕ) → AreWords xs → AreWords (rest xs)
rest_words [] h = tt
rest_words (x ∷ xs) h = h.1

pub words-append : (xs ys : List ℕ) → AreWords xs → AreWords ys → AreWords (xs ++ ys)
words-append [] ys h k = k
words-append (x ∷ xs) ys h k = (h.0, words-append xs ys h.1 k)

taken_words : (k : Queue) (q : Queues) → WordsWait q → WordsWait (taken_from k q)
taken_words Ld q h = record { ab = h.ab; eb = h.eb; cq = h.cq }
taken_words Al q h = record { ab = h.ab; eb = h.eb; cq = h.cq }
taken_words Sa q h = h
taken_words Sd q h = h
taken_words Ab q h = record { ab = rest_words q.ab h.ab; eb = h.eb; cq = h.cq }
taken_words Eb q h = record { ab = h.ab; eb = rest_words q.eb h.eb; cq = h.cq }
taken_words Cq q h = record { ab = h.ab; eb = h.eb; cq = rest_words q.cq h.cq }

pushed_words : (k : Queue) (x : ℕ) (q : Queues) → x < 2 ^ 32 → WordsWait q → WordsWait (pushed_to k x q)
pushed_words Ld x q i h = h
pushed_words Al x q i h = h
pushed_words Sa x q i h = h
pushed_words Sd x q i h = record { ab = h.ab; eb = h.eb; cq = h.cq }
pushed_words Ab x q i h = record { ab = words-append q.ab (x ∷ []) h.ab (i, tt); eb = h.eb; cq = h.cq }
pushed_words Eb x q i h = record { ab = h.ab; eb = words-append q.eb (x ∷ []) h.eb (i, tt); cq = h.cq }
pushed_words Cq x q i h = record { ab = h.ab; eb = h.eb; cq = words-append q.cq (x ∷ []) h.cq (i, tt) }

reserved_words : (k : Queue) (kind : LoadKind) (x : ℕ) (q : Queues) → WordsWait q → WordsWait (reserved_in k kind x q)
reserved_words Ld kind x q h = record { ab = h.ab; eb = h.eb; cq = h.cq }
reserved_words Al kind x q h = record { ab = h.ab; eb = h.eb; cq = h.cq }
reserved_words Sa kind x q h = h
reserved_words Sd kind x q h = h
reserved_words Ab kind x q h = h
reserved_words Eb kind x q h = h
reserved_words Cq kind x q h = h

used_words : (u : Use) (q : Queues) → PushesWord u → WordsWait q → WordsWait (commit (access_of u) (put_by u) q)
used_words (Takes k x) q i h = taken_words k q h
used_words (Pushes k x) q i h = pushed_words k x q i h
used_words (Reserves k kind a) q i h = reserved_words k kind a q h
used_words (Sends width a) q i h = record { ab = h.ab; eb = h.eb; cq = h.cq }
used_words (Says text) q i h = h

filled_words : (n : ℕ) (q next : Queues) (m : List ℕ) → fill A n q m ≡ Some next → WordsWait q → WordsWait next
filled_words n q next m e h =
    let x = map_some_is (λ (w : ℕ). with_loads_of A (with_value n w (loads_of A q).slots) q) (filling A n q m) next e in
    subst (λ (q : Queues). WordsWait q) x.2 (record { ab = h.ab; eb = h.eb; cq = h.cq })

pub words_wait : {d : Depths} {on : Side} {m : List ℕ} {n : ℕ} {q last : Queues} {uses : List Use} → Grants d on m n q uses last → AllByRecursion PushesWord uses → WordsWait q → WordsWait last
words_wait ends i h = h
words_wait {q = q} (grants {u = u} can same v) i h = words_wait v i.1 (used_words u q i.0 h)
words_wait {m = m} {q = q} (owns {next = next} {kind = kind} {address = a} number can e v) i h =
    words_wait v i.1 (filled_words number (commit (Load Al kind) a q) next m e (reserved_words Al kind a q h))

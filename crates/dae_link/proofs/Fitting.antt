-- A linked image's fields are in their ranges.
use Rattle.std.proofs.Common.{◌≡◌, ℕ, ◌*◌, ◌%◌, ◌^◌, ◌≤◌, ◌<◌, List, length, sym, arith}
use Rattle.std.specs.List.{All}
use Rattle.dae_base.specs.declared.Depths.{Depths}
use Rattle.dae_base.specs.declared.Queue.TheVariants.{Ld, Al, Sa, Sd, Ab, Eb, Cq}
use Rattle.dae_image.specs.Contents.{Fits, header}
use Rattle.dae_image.specs.declared.LineMark.{LineMark}
use Rattle.dae_image.specs.Ranges.{IsIn, depth_range}
use Rattle.dae_ir.specs.declared.stream.Pair.{Pair}
use Rattle.dae_select.specs.declared.growing.PlacedWord.{PlacedWord}
use Rattle.dae_link.specs.Linked.{CanLink}
use Rattle.dae_link.specs.Marked.{AreMarks}
use Rattle.dae_link.specs.declared.marks.MarkRoom.{MarkRoom}

depth_in : (n : ℕ) → n ≤ 4096 → IsIn depth_range n
depth_in n h = (omega arith, h, omega arith)

fourfold : (n : ℕ) → 4 * n % 4 ≡ 0
fourfold n = omega arith

pub linked_fits : (pair : Pair) (budget : Depths) (content : List ℕ) (names : List (List ℕ)) → CanLink pair budget content names
    → (code_a code_e : List ℕ) (private_a private_e : ℕ) → 1 ≤ length code_a → length code_a ≤ 2 ^ 25 → 1 ≤ length code_e → length code_e ≤ 2 ^ 25 → private_a ≤ 2 ^ 28 → private_e ≤ 2 ^ 28
    → All (λ w. w < 2 ^ 32) code_a → All (λ w. w < 2 ^ 32) code_e
    → (room : MarkRoom) (places_a places_e : List PlacedWord) (lines : List LineMark) → room.words_a ≡ length code_a → room.words_e ≡ length code_e → room.files ≡ length names → AreMarks room places_a places_e lines
    → Fits (record { budget = budget; memory = pair.a.memory; calls = pair.a.calls; private_a = 4 * private_a; private_e = 4 * private_e; entry_a = 0; entry_e = 0; code_a = code_a; code_e = code_e; content = content; lines = lines; names = names })
linked_fits pair budget content names can code_a code_e private_a private_e some_a few_a some_e few_e low_a low_e words_a words_e room places_a places_e lines long_a long_e files marks =
    let least = can.a.least in let most = can.a.most in let some = can.a.some in let few = can.a.few in let aligned = can.aligned in
    record {
      head = record {
        ld = depth_in budget.ld (can.depths Ld);
        al = depth_in budget.al (can.depths Al);
        sa = depth_in budget.sa (can.depths Sa);
        sd = depth_in budget.sd (can.depths Sd);
        ab = depth_in budget.ab (can.depths Ab);
        eb = depth_in budget.eb (can.depths Eb);
        cq = depth_in budget.cq (can.depths Cq);
        memory = (least, omega arith, aligned);
        calls = (some, few, omega arith);
        private_a = (omega arith, omega arith, fourfold private_a);
        private_e = (omega arith, omega arith, fourfold private_e);
        entry_a = (omega arith, omega arith, omega arith);
        entry_e = (omega arith, omega arith, omega arith);
        words_a = (some_a, omega arith, omega arith);
        words_e = (some_e, omega arith, omega arith);
        content = (omega arith, can.room, omega arith);
        lines = (omega arith, marks.few, omega arith);
        names = (omega arith, can.few, omega arith);
      };
      code_a = words_a;
      code_e = words_e;
      content = can.bytes;
      lines = marks.good (header (record { budget = budget; memory = pair.a.memory; calls = pair.a.calls; private_a = 4 * private_a; private_e = 4 * private_e; entry_a = 0; entry_e = 0; code_a = code_a; code_e = code_e; content = content; lines = lines; names = names })) (record { words_a = sym long_a; words_e = sym long_e; files = sym files });
      numbers = marks.numbers;
      names = can.named;
    }

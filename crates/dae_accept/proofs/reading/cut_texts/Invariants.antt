use Rattle.std.proofs.Common.{◌≡◌, drop}
use Rattle.dae_accept.specs.Read.{readings_from, readings_of, texts_in}
use Rattle.dae_accept.proofs.Texts.{behind}
use Rattle.dae_accept.proofs.reading.cut_texts.Given as goal

abbrev pub invariant-loop-text : goal.invariant-loop-text
invariant-loop-text l =
    record {
      number : l.file ≡ l.text-index;
      rest : behind l.all.items (readings_from l.file l.room (texts_in (drop l.text-index l.texts))) ≡ readings_of (texts_in l.texts);
    }

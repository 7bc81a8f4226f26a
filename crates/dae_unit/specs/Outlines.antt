-- What the joining of files depends on: neither on what objects hold nor on bodies.
use Rattle.std.specs.Prelude.{◌≡◌, ℕ, List, [], map}
use Rattle.dae_types_typed.specs.declared.files.FileParts.{FileParts}
use Rattle.dae_unit.specs.Joining.{cause}

-- a file without what its objects hold and without its bodies
abbrev pub outline : FileParts → FileParts
outline f =
    record {
      shapes = f.shapes;
      structures = f.structures;
      components = f.components;
      objects = f.objects;
      routines = f.routines;
      declarations = f.declarations;
      contents = [];
      functions = [];
      uses = f.uses;
      names = f.names;
      literals = f.literals;
    }

-- outlines have the first cause that their files have
abbrev pub OutlinesTellCauses : Type 0
OutlinesTellCauses = (files : List FileParts) (memory : ℕ) → cause (map outline files) memory ≡ cause files memory

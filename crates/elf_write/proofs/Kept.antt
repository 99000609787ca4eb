-- What is kept of an input's segments.
use Rattle.std.proofs.Common.{◌≡◌, ◌≢◌, Bool, true, false, List, ◌∷◌, arith, ap}
use Rattle.std.specs.Prelude.{◌==◌, bit_and, if◌then◌else◌}
use Rattle.std.proofs.lemmas.Bool.Decides.{nat_tests}
use Rattle.ev_graph.specs.Memory.{Part}
use Rattle.elf_write.specs.Image.{kept}

-- a segment without memory is passed over
pub kept_empty : (parts : List Part) (part : Part) → part.size ≡ 0 → kept (part ∷ parts) ≡ kept parts
kept_empty parts part none =
    let test : (part.size == 0) ≡ true = grind (arith, nat_tests, none) in
    ap (λ (t : Bool). if t then kept parts else record part { flags = bit_and part.flags 6 } ∷ kept parts) test

-- any other one stays
pub kept_some : (parts : List Part) (part : Part) → part.size ≢ 0 → kept (part ∷ parts) ≡ record part { flags = bit_and part.flags 6 } ∷ kept parts
kept_some parts part some =
    let test : (part.size == 0) ≡ false = grind (arith, nat_tests, some) in
    ap (λ (t : Bool). if t then kept parts else record part { flags = bit_and part.flags 6 } ∷ kept parts) test

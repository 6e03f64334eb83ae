-- The heights that a caller asks for, as the rules take them: of two trees, or of three.
use Rattle.rules.specs.Trees.{Heights, two, three}
use Rattle.key.specs.declared.asked.Asked.{Asked}
use Rattle.key.specs.declared.asked.Asked.TheVariants.{Two, Three}

abbrev pub heights_of : Asked → Heights
heights_of (Two h1 h2) = two h1 h2
heights_of (Three h1 h2 h3) = three h1 h2 h3

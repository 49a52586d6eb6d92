-- The names that a word is looked up among.
use Rattle.std.specs.Prelude.{List}
use Rattle.text_words.specs.Words.{words_of}
use Rattle.real.specs.Form.{Word}
use Rattle.real_gates.specs.declared.keys.Names.{Names}

abbrev pub names_in : Names → List Word
names_in names = words_of names.line.now

-- `Names::place` meets its contract: a word that is no name is none of them, and else its key stands where it stands. Assumes nothing.
use Rattle.std.proofs.Common.{◌≡◌, ◌∙◌, sym, map, rules, tests, eqb}
use Rattle.std.proofs.lemmas.Iterator.Search.{position_from_yields_List}
use Rattle.std.proofs.lemmas.Iterator.{YieldsList-from_slice}
use Rattle.real_gates.specs.Keys.{key_of}
use Rattle.real_gates.specs.Names.{names_in}
use Rattle.real_gates.proofs.KeyLaws.{key_found}
use Rattle.real_gates.proofs.keys.Names.place.Goals as goal

pub returns : goal.returns
returns c =
    let names = names_in c.args.self.now in
    let keyed = c.args.self.now.known.keyed in
    let keys : c.in-Some.keys.now ≡ map key_of names = rw c.in-Some.is at keyed in
    key_found names c.args.word.now c.in-Some.keys.now _ c.args.self.now.known.are (sym c.is_name.ensures ∙ c.if-not-is_name.false) keys
    (position_from_yields_List (λ key. eqb key (key_of c.args.word.now)) c.position.new.self _ _ c.position.ensures.ran
    (YieldsList-from_slice c.in-Some.keys.now c.iter.ensures.rest) (λ x b q k. search (rules, tests)))

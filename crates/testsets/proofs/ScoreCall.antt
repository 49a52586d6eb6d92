-- What the contract of `Left::score` asks and promises, for crates that use this one: they cannot name the private module in which it stands.
use borrow.Fn.Kinds.{In, Out}
use Rattle.testsets.proofs.left.Left.score.Kinds.{ps, r}
use Rattle.testsets.proofs.left.Left.score.Reads as score

abbrev pub Pre : In 2 ps
Pre = score.Pre

abbrev pub Post : Out 2 ps r
Post = score.Post

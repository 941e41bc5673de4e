use Rattle.key_codec.proofs.Fitting.{proper_fits}
use Rattle.key_codec.proofs.Keys.{keys_ordered, keys_equal, keys_tell, keyed-push, numbers_short}
use Rattle.key_codec.proofs.laws.keys_are_ordered.Goals as goal

pub returns : goal.returns
returns c = record {
  order = keys_ordered;
  equal = keys_equal;
  onward = λ ps qs h. (keys_tell ps qs h).at;
  joined = keyed-push;
  fits = proper_fits;
  short = numbers_short;
}

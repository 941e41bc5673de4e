use Rattle.std.proofs.Common.{◌≡◌, ◌+◌, length, drop}
use Rattle.bson_value.specs.Tree.{doc, pairs_of}
use Rattle.chunk_map.specs.Keys.{key_of, key_from}
use Rattle.chunk_map.specs.KeyParts.{key_parts}
use Rattle.chunk_map.proofs.Parts.{behind}
use Rattle.chunk_map.proofs.key.key_of.Given as goal

abbrev pub invariant-loop-i : goal.invariant-loop-i
invariant-loop-i l = record {
  key : key_of l.paths l.doc ≡ behind (key_parts l.i l.parts) (key_from (l.i + 1) (drop l.i l.paths) (doc (pairs_of l.doc)));
  size : length l.parts ≡ 4;
}

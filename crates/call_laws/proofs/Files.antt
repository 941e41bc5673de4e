-- The cluster file, and what both files have in common.
use Rattle.std.proofs.Common.{◌≡◌, ◌≤◌, ◌<◌, ℕ, Bool, true, false, cond, List, length, Option, Some, None, Result, Ok, Err, inl, inr, refl, ap, subst, ◌∙◌, arith}
use Rattle.std.specs.Prelude.{nat_le}
use Rattle.std.proofs.lemmas.Bool.{leb-true, leb-false, le-leb, lt-leb}
use Rattle.chunk_map.specs.Table.{Table}
use Rattle.chunk_map.specs.Form.{table}
use Rattle.chunk_map.specs.Spelled.{IsRefused}
use Rattle.chunk_map.specs.declared.errors.BadCluster.{BadCluster}
use Rattle.chunk_map.proofs.Tables.{good_tables, bad_tables}
use Rattle.mq_ports.specs.World.{Held, file_of}
use Rattle.aggregate_command.specs.declared.status.Status.{Status}
use Rattle.aggregate_command.specs.declared.status.Status.TheVariants as S
use Rattle.aggregate_command.specs.Status.{Step}
use Rattle.aggregate_command.specs.Verdict.{longest, short_file, file_in, good_table, table_at}
use Rattle.aggregate_command.specs.Meaning.{IsFile, IsClusterFile}
use Rattle.call_laws.specs.Refusals.{IsLongFile}
use Rattle.call_laws.proofs.Sequel.{either_step, stops, goes_on, same_refusal, if_ok, if_true, if_false}

module _ (held : Held) (name : List ℕ) where
  -- ---- the file of this name

  -- why a file is refused, whatever it is to spell
  abbrev pub FileRefused : Status → Type 0
  FileRefused (S.NoFile asked) = (name ≡ asked) × (file_of name held ≡ None)
  FileRefused (S.FileTooLong asked len) = (name ≡ asked) × IsLongFile held name len
  FileRefused s = ⊥

  long_refused : (b : Bool) (bytes : List ℕ) (s : Status) → nat_le (length bytes) longest ≡ b → file_of name held ≡ Some bytes → cond b (Ok bytes) (Err (S.FileTooLong name (length bytes))) ≡ Err s → FileRefused s
  long_refused true bytes s le is e = absurd cc
  long_refused false bytes s le is e =
      subst FileRefused (same_refusal (S.FileTooLong name (length bytes)) s e) (refl, record { bytes = bytes; contents = is; count = refl; long = leb-false (length bytes) longest le })

  short_refused : (file : Option (List ℕ)) (s : Status) → file_of name held ≡ file → short_file name file ≡ Err s → FileRefused s
  short_refused None s is e = subst FileRefused (same_refusal (S.NoFile name) s e) (refl, is)
  short_refused (Some bytes) s is e = long_refused (nat_le (length bytes) longest) bytes s refl is e

  pub file_refused : (s : Status) → file_in held name ≡ Err s → FileRefused s
  file_refused s e = short_refused (file_of name held) s refl e

  pub no_file : file_of name held ≡ None → file_in held name ≡ Err (S.NoFile name)
  no_file e = ap (short_file name) e

  pub long_file : (len : ℕ) → IsLongFile held name len → file_in held name ≡ Err (S.FileTooLong name len)
  long_file len f =
      let more : longest < length f.bytes = omega (arith, f.long, f.count) in
      ap (short_file name) f.contents ∙ if_false (nat_le (length f.bytes) longest) _ f.bytes (lt-leb (length f.bytes) longest more) ∙ ap (λ n. Err (S.FileTooLong name n)) f.count

  short_found : (file : Option (List ℕ)) (bytes : List ℕ) → short_file name file ≡ Ok bytes → (file ≡ Some bytes) × (length bytes ≤ longest)
  short_found None bytes e = absurd cc
  short_found (Some b) bytes e =
      let t = if_ok (nat_le (length b) longest) _ b bytes e in
      let within : length b ≤ longest = leb-true (length b) longest t.0 in
      (ap Some t.1, omega (arith, ap length t.1))

  pub file_found : (bytes : List ℕ) → file_in held name ≡ Ok bytes → IsFile held name bytes
  file_found bytes e = let s = short_found (file_of name held) bytes e in record { contents = s.0; short = s.1 }

  pub file_is : (bytes : List ℕ) → IsFile held name bytes → file_in held name ≡ Ok bytes
  file_is bytes file = ap (short_file name) file.contents ∙ if_true (nat_le (length bytes) longest) _ bytes (le-leb (length bytes) longest file.short)

  -- ---- a cluster file

  abbrev table_in : List ℕ → Step Table
  table_in bytes = good_table (table bytes)

  -- why a cluster file is refused
  abbrev pub ClusterRefused : Status → Type 0
  ClusterRefused (S.BadCluster b) = (bytes : List ℕ) × IsFile held name bytes × IsRefused bytes b
  ClusterRefused s = FileRefused s

  as_cluster_file : (s : Status) → FileRefused s → ClusterRefused s
  as_cluster_file (S.BadCluster b) f = absurd f
  as_cluster_file s f = f

  table_refused : (bytes : List ℕ) (r : Result Table BadCluster) (s : Status) → IsFile held name bytes → table bytes ≡ r → good_table r ≡ Err s → ClusterRefused s
  table_refused bytes (Ok collections) s file is e = absurd cc
  table_refused bytes (Err b) s file is e = subst ClusterRefused (same_refusal (S.BadCluster b) s e) (bytes, file, (bad_tables bytes b).0 is)

  pub cluster_refused : (s : Status) → table_at held name ≡ Err s → ClusterRefused s
  cluster_refused s e =
      elim (either_step (file_in held name) table_in s e) [
        | inl h ↦ as_cluster_file s (file_refused s h)
        | inr n ↦ table_refused n.value (table n.value) s (file_found n.value n.first) refl n.later
      ]

  pub bad_cluster : (bytes : List ℕ) (b : BadCluster) → IsFile held name bytes → IsRefused bytes b → table_at held name ≡ Err (S.BadCluster b)
  bad_cluster bytes b file refused = goes_on (file_in held name) table_in bytes (file_is bytes file) ∙ ap good_table ((bad_tables bytes b).1 refused)

  pub no_cluster : (s : Status) → file_in held name ≡ Err s → table_at held name ≡ Err s
  no_cluster s e = stops (file_in held name) table_in s e

  pub cluster_is : (collections : Table) → IsClusterFile held name collections → table_at held name ≡ Ok collections
  cluster_is collections k = goes_on (file_in held name) table_in k.bytes (file_is k.bytes k.file) ∙ ap good_table ((good_tables k.bytes collections).1 k.form)

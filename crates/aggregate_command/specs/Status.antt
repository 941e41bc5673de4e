-- How a run ends, and what an early end says of what was to come.
use Rattle.std.specs.Prelude.{◌≡◌, ℕ, Result, Ok, Err, ⊤}
use Rattle.aggregate_command.specs.declared.status.Status.{Status}
use Rattle.aggregate_command.specs.declared.status.Status.TheVariants.{Done, NotBuilt, Usage, BadCommand, BadCluster, BadShard, NoFile, FileTooLong, EvalError, TooManyDocuments, ReadFault, SpillFault, TargetFault, WriteFault, Damage, Memory}

-- the exit status
abbrev pub code_of : Status → ℕ
code_of Done = 0
code_of NotBuilt = 1
code_of Usage = 2
code_of (BadCommand b) = 3
code_of (BadCluster b) = 4
code_of (BadShard b) = 5
code_of (NoFile name) = 6
code_of (FileTooLong name len) = 7
code_of (EvalError f) = 8
code_of TooManyDocuments = 9
code_of ReadFault = 10
code_of SpillFault = 11
code_of TargetFault = 12
code_of WriteFault = 13
code_of Damage = 14
code_of Memory = 15

-- something that is come to, or the status of the first refusal
abbrev pub Step : Type 0 → Type 0
Step A = Result A Status

infixl 10 ◌>>=◌
abbrev pub ◌>>=◌ : {A B : Type 0} → Step A → (A → Step B) → Step B
(Ok x) >>= next = next x
(Err status) >>= next = Err status

-- the status that a step comes to
abbrev pub status_of : {A : Type 0} → Step A → Status
status_of (Ok x) = Done
status_of (Err status) = status

-- what an early end says of a step, where the files are told
abbrev pub Explains : {A : Type 0} → Status → Step A → Type 0
Explains NotBuilt step = step ≡ Err NotBuilt
Explains Usage step = step ≡ Err Usage
Explains (BadCommand b) step = step ≡ Err (BadCommand b)
Explains (BadCluster b) step = step ≡ Err (BadCluster b)
Explains (BadShard b) step = step ≡ Err (BadShard b)
Explains (NoFile name) step = step ≡ Err (NoFile name)
Explains (FileTooLong name len) step = step ≡ Err (FileTooLong name len)
Explains (EvalError f) step = step ≡ Err (EvalError f)
Explains ReadFault step = ⊤
Explains Memory step = ⊤
Explains status step = ⊥

-- a function's answer, seen by view, is that of a step, or it ended early
abbrev pub Answers : {X Y : Type 0} → (X → Y) → Result X Status → Step Y → Type 0
Answers view (Ok x) step = step ≡ Ok (view x)
Answers view (Err status) step = Explains status step

-- a status of words
abbrev pub IsOfWords : Status → Type 0
IsOfWords NotBuilt = ⊤
IsOfWords Usage = ⊤
IsOfWords Memory = ⊤
IsOfWords status = ⊥

-- a status of what a file's bytes stand for
abbrev pub IsOfBytes : Status → Type 0
IsOfBytes NotBuilt = ⊤
IsOfBytes (BadCommand b) = ⊤
IsOfBytes (BadCluster b) = ⊤
IsOfBytes Memory = ⊤
IsOfBytes status = ⊥

-- a status of a reading that was good once: a fault, damage, or want of memory
abbrev pub IsOfReading : Status → Type 0
IsOfReading ReadFault = ⊤
IsOfReading Damage = ⊤
IsOfReading Memory = ⊤
IsOfReading status = ⊥

-- a status of files and of the stages over them, before anything is written
abbrev pub IsOfFiles : Status → Type 0
IsOfFiles NotBuilt = ⊤
IsOfFiles (BadCommand b) = ⊤
IsOfFiles (BadCluster b) = ⊤
IsOfFiles (BadShard b) = ⊤
IsOfFiles (NoFile name) = ⊤
IsOfFiles (FileTooLong name len) = ⊤
IsOfFiles (EvalError f) = ⊤
IsOfFiles ReadFault = ⊤
IsOfFiles Damage = ⊤
IsOfFiles Memory = ⊤
IsOfFiles status = ⊥

-- a status that comes before anything is written
abbrev pub IsEarly : Status → Type 0
IsEarly Usage = ⊤
IsEarly status = IsOfFiles status

-- a status that may come. No stage that is built keeps runs or has a target, and no number of documents is too many
abbrev pub MayCome : Status → Type 0
MayCome Done = ⊤
MayCome WriteFault = ⊤
MayCome status = IsEarly status

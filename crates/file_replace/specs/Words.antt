-- Names and numbers of the file replacement: its points, labels, failure codes, and the names on the device.
use Rattle.std.specs.Prelude.{ℕ, ◌==◌, if◌then◌else◌, List, [], ◌∷◌, codes}
use Rattle.file_replace.specs.declared.variant.Variant.{Variant}
use Rattle.file_replace.specs.declared.variant.Variant.TheVariants.{Sound, LateSync, IgnoreSync, RetryWrite, RenameFirst, InPlace}
use Rattle.file_replace.specs.declared.disk.Name.{Name}
use Rattle.file_replace.specs.declared.disk.Name.TheVariants as name

-- The points, in the order of their numbers.
abbrev pub point_names : List (List ℕ)
point_names =
    codes "replace::clear" ∷ codes "replace::create" ∷ codes "replace::write" ∷ codes "replace::sync" ∷ codes "replace::rename"
    ∷ codes "replace::sync_dir" ∷ codes "replace::unlink" ∷ []

abbrev pub clear_point : ℕ
clear_point = 0

abbrev pub create_point : ℕ
create_point = 1

abbrev pub write_point : ℕ
write_point = 2

abbrev pub sync_point : ℕ
sync_point = 3

abbrev pub rename_point : ℕ
rename_point = 4

abbrev pub sync_dir_point : ℕ
sync_dir_point = 5

abbrev pub unlink_point : ℕ
unlink_point = 6

abbrev pub label : Variant → List ℕ
label Sound = codes "replace sound"
label LateSync = codes "replace late_sync"
label IgnoreSync = codes "replace ignore_sync"
label RetryWrite = codes "replace retry_write"
label RenameFirst = codes "replace rename_first"
label InPlace = codes "replace in_place"

-- The failure codes. `torn`: the contents were never written as a whole by anybody. `stale`: the contents are ones that were replaced.
abbrev pub torn : ℕ
torn = 0

abbrev pub stale : ℕ
stale = 1

abbrev pub code_text : ℕ → List ℕ
code_text code = if code == torn then codes "torn" else codes "stale"

-- The names on the device: the file that is replaced, and the one that is written first.
abbrev pub target : ℕ
target = 0

abbrev pub tmp : ℕ
tmp = 1

abbrev pub name_text : ℕ → List ℕ
name_text name = if name == target then codes "target" else codes "tmp"

-- The name that the new contents are written under. `in_place` writes them under the name of the old ones.
abbrev pub written_name : Variant → ℕ
written_name Sound = tmp
written_name LateSync = tmp
written_name IgnoreSync = tmp
written_name RetryWrite = tmp
written_name RenameFirst = tmp
written_name InPlace = target

abbrev pub number_of : Name → ℕ
number_of name.Target = target
number_of name.Tmp = tmp

-- Names and numbers of the delivery: its points, labels, failure codes, and the names on the device.
use Rattle.std.specs.Prelude.{ℕ, ◌+◌, ◌*◌, ◌/◌, ◌%◌, ◌==◌, if◌then◌else◌, List, [], ◌∷◌, ◌++◌, codes}
use Rattle.std.specs.Fmt.{decimal}
use Rattle.maildir_target.specs.declared.variant.Variant.{Variant}
use Rattle.maildir_target.specs.declared.variant.Variant.TheVariants.{Sound, LinkFirst, IgnoreWrite, AppendTmp, DeliverInNew}
use Rattle.maildir_target.specs.declared.name.Folder.{Folder}
use Rattle.maildir_target.specs.declared.name.Folder.TheVariants as folder
use Rattle.maildir_target.specs.declared.name.Attempt.{Attempt}
use Rattle.maildir_target.specs.declared.name.Attempt.TheVariants.{First, Second}
use Rattle.maildir_target.specs.declared.name.Name.{Name}

-- The points, in the order of their numbers.
abbrev pub point_names : List (List ℕ)
point_names =
    codes "maildir::stat" ∷ codes "maildir::create" ∷ codes "maildir::write" ∷ codes "maildir::sync" ∷ codes "maildir::link"
    ∷ codes "maildir::unlink" ∷ codes "maildir::sync_dir" ∷ []

abbrev pub stat_point : ℕ
stat_point = 0

abbrev pub create_point : ℕ
create_point = 1

abbrev pub write_point : ℕ
write_point = 2

abbrev pub sync_point : ℕ
sync_point = 3

abbrev pub link_point : ℕ
link_point = 4

abbrev pub unlink_point : ℕ
unlink_point = 5

abbrev pub sync_dir_point : ℕ
sync_dir_point = 6

abbrev pub label : Variant → List ℕ
label Sound = codes "maildir sound"
label LinkFirst = codes "maildir link_first"
label IgnoreWrite = codes "maildir ignore_write"
label AppendTmp = codes "maildir append_tmp"
label DeliverInNew = codes "maildir deliver_in_new"

-- The failure codes. `torn`: a delivered message isn't whole. `lost`: an acknowledged message is gone.
abbrev pub torn : ℕ
torn = 0

abbrev pub lost : ℕ
lost = 1

abbrev pub code_text : ℕ → List ℕ
code_text code = if code == torn then codes "torn" else codes "lost"

-- The numbers of the names on the device. Each message has four names, and messages are numbered from 1.
abbrev pub folder_part : Folder → ℕ
folder_part folder.Tmp = 0
folder_part folder.New = 1

abbrev pub attempt_part : Attempt → ℕ
attempt_part First = 0
attempt_part Second = 2

abbrev pub number_of : Name → ℕ
number_of name = 4 * name.message + attempt_part name.attempt + folder_part name.folder

-- `tmp/i.a` and `new/i.a` for message i and attempt a.
abbrev pub tmp_name : ℕ → Attempt → ℕ
tmp_name message attempt = number_of (record { folder = folder.Tmp; message = message; attempt = attempt })

abbrev pub new_name : ℕ → Attempt → ℕ
new_name message attempt = number_of (record { folder = folder.New; message = message; attempt = attempt })

-- The text of a name, `tmp/i.a` or `new/i.a` for message i and attempt a, both numbered from 1.
abbrev pub folder_text : Folder → List ℕ
folder_text folder.Tmp = codes "tmp"
folder_text folder.New = codes "new"

abbrev pub attempt_number : Attempt → ℕ
attempt_number First = 1
attempt_number Second = 2

abbrev pub text_of : Name → List ℕ
text_of name = folder_text name.folder ++ codes "/" ++ decimal name.message ++ codes "." ++ decimal (attempt_number name.attempt)

-- The text of the name with this number.
abbrev pub name_text : ℕ → List ℕ
name_text number =
    (if number % 2 == 0 then codes "tmp" else codes "new") ++ codes "/" ++ decimal (number / 4) ++ codes "." ++ decimal (number / 2 % 2 + 1)

-- The folder of the name that a message is written under. `deliver_in_new` writes it directly in the folder of delivered messages.
abbrev pub written_folder : Variant → Folder
written_folder Sound = folder.Tmp
written_folder LinkFirst = folder.Tmp
written_folder IgnoreWrite = folder.Tmp
written_folder AppendTmp = folder.Tmp
written_folder DeliverInNew = folder.New

abbrev pub written_name : Variant → ℕ → Attempt → ℕ
written_name v message attempt = number_of (record { folder = written_folder v; message = message; attempt = attempt })

-- Lists of texts in the data of a TOML text, and their meaning.
use Rattle.std.specs.Prelude.{◌&&◌, ◌||◌, ◌==◌, ℕ, Bool, List, [], ◌∷◌, map, length, Option, Some, None, codes, nat_le, option_and_then, option_map, if◌then◌else◌}
use Rattle.std.specs.List.{list_all}
use Rattle.std.specs.Str.{bytes_eq}
use Rattle.toml.specs.Data.{Data, Items, as_array, as_str, item, no_items}
use Rattle.campaign_settings.specs.Keys.{Text}
use Rattle.commit_target.specs.declared.work.Vote.{Vote}
use Rattle.commit_target.specs.declared.work.Vote.TheVariants.{Yes, No}

-- ---- lists

-- The list with one more at the front; none if either is missing.
abbrev pub before : {X : Type 0} → Option X → Option (List X) → Option (List X)
before None rest = None
before (Some x) rest = option_map (λ xs. x ∷ xs) rest

-- What f gives for each member; none if it gives none for one of them.
abbrev pub each : {X Y : Type 0} → (X → Option Y) → List X → Option (List Y)
each f [] = Some []
each f (x ∷ xs) = before (f x) (each f xs)

-- What f gives for each item; none if it gives none for one of them.
abbrev pub all_in : {X : Type 0} → (Data → Option X) → Items → Option (List X)
all_in f no_items = Some []
all_in f (item d ds) = before (f d) (all_in f ds)

abbrev pub texts_in : Items → Option (List Text)
texts_in = all_in as_str

abbrev pub list_in : Data → Option (List Text)
list_in d = option_and_then texts_in (as_array d)

abbrev pub lists_in : Items → Option (List (List Text))
lists_in = all_in list_in

-- ---- the meaning of a list of texts

-- Chunks: up to 1000, of up to 4096 bytes each.
abbrev pub is_chunk : Text → Bool
is_chunk chunk = nat_le (length chunk) 4096

abbrev pub is_chunk_list : List Text → Bool
is_chunk_list chunks = nat_le (length chunks) 1000 && list_all is_chunk chunks

abbrev pub chunks_of : List Text → Option (List Text)
chunks_of texts = if is_chunk_list texts then Some texts else None

-- Wishes: one for each participant, `yes` or `no`.
abbrev pub is_wish : Text → Bool
is_wish word = bytes_eq word (codes "yes") || bytes_eq word (codes "no")

abbrev pub is_wish_list : ℕ → List Text → Bool
is_wish_list participants words = length words == participants && list_all is_wish words

abbrev pub wish_of : Text → Vote
wish_of word = if bytes_eq word (codes "yes") then Yes else No

abbrev pub wishes_of : ℕ → List Text → Option (List Vote)
wishes_of participants texts = if is_wish_list participants texts then Some (map wish_of texts) else None

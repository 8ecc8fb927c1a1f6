-- The words of a line: what stands between blanks.
use Rattle.std.specs.Prelude.{ℕ, List, [], ◌∷◌, ◌++◌, if◌then◌else◌}
use Rattle.std.specs.Char.{is_ascii_whitespace}

-- the word that has begun, if one has, before those behind it
abbrev pub with_word : List ℕ → List (List ℕ) → List (List ℕ)
with_word [] words = words
with_word (x ∷ xs) words = (x ∷ xs) ∷ words

-- the words of what is left of a line behind the octets of a word that has begun
abbrev pub words_from : List ℕ → List ℕ → List (List ℕ)
words_from begun [] = with_word begun []
words_from begun (x ∷ xs) = if is_ascii_whitespace x then with_word begun (words_from [] xs) else words_from (begun ++ x ∷ []) xs

abbrev pub words_of : List ℕ → List (List ℕ)
words_of line = words_from [] line

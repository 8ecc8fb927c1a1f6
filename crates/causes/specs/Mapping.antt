-- The two tables between Q.850 causes and SIP statuses, and what they answer for every number.
use Rattle.std.specs.Prelude.{◌≡◌, ℕ, ◌≤◌, Bool, true, ◌&&◌, List, [], ◌∷◌, Some, None, Option, ◌==◌, if◌then◌else◌, nat_le}
use Rattle.causes.specs.Names.{user, remote_private_network, call_rejected, normal_unspecified, decline, server_internal_error}

-- a cause value and the status that answers an INVITE whose call was cleared with it;
-- the row of cause 21 is for every location but the user
abbrev pub cause_rows : List (ℕ × ℕ)
cause_rows =
    (1, 404) ∷ (2, 404) ∷ (3, 404) ∷ (16, 500) ∷ (17, 486) ∷ (18, 408) ∷
    (19, 480) ∷ (20, 480) ∷ (21, 403) ∷ (22, 410) ∷ (23, 410) ∷ (27, 502) ∷
    (28, 484) ∷ (29, 501) ∷ (31, 480) ∷ (34, 503) ∷ (38, 503) ∷ (41, 503) ∷
    (42, 503) ∷ (47, 503) ∷ (55, 403) ∷ (57, 403) ∷ (58, 503) ∷ (65, 488) ∷
    (69, 501) ∷ (70, 488) ∷ (79, 501) ∷ (87, 403) ∷ (88, 503) ∷ (102, 504) ∷ []

-- a status that refuses an INVITE and the cause value with which its call is cleared
abbrev pub status_rows : List (ℕ × ℕ)
status_rows =
    (400, 41) ∷ (401, 21) ∷ (402, 21) ∷ (403, 21) ∷ (404, 1) ∷ (405, 63) ∷
    (406, 79) ∷ (407, 21) ∷ (408, 102) ∷ (410, 22) ∷ (413, 127) ∷ (414, 127) ∷
    (415, 79) ∷ (416, 127) ∷ (420, 127) ∷ (421, 127) ∷ (423, 127) ∷ (480, 18) ∷
    (481, 41) ∷ (482, 25) ∷ (483, 25) ∷ (484, 28) ∷ (485, 1) ∷ (486, 17) ∷
    (487, 31) ∷ (488, 31) ∷ (500, 41) ∷ (501, 79) ∷ (502, 38) ∷ (503, 41) ∷
    (504, 102) ∷ (505, 127) ∷ (513, 127) ∷ (600, 17) ∷ (603, 21) ∷ (604, 1) ∷
    (606, 31) ∷ []

-- what stands beside `key` in the first row that begins with it, or `other` where no row does
abbrev pub second_of : List (ℕ × ℕ) → ℕ → ℕ → ℕ
second_of [] key other = other
second_of (row ∷ rest) key other = if row.0 == key then row.1 else second_of rest key other

abbrev pub within : ℕ → ℕ → ℕ → Bool
within low high n = nat_le low n && nat_le n high

-- whether each number that a table can answer, `other` too, lies between two limits
abbrev pub all_within : ℕ → ℕ → List (ℕ × ℕ) → ℕ → Bool
all_within low high [] other = within low high other
all_within low high (row ∷ rest) other = within low high row.1 && all_within low high rest other

-- a number that lies between any two limits that all answers of a table keep
abbrev pub Between : List (ℕ × ℕ) → ℕ → ℕ → Type 0
Between rows other n = (low high : ℕ) → all_within low high rows other ≡ true → (low ≤ n) × (n ≤ high)

-- the status for a cause: a call rejected by the user himself is declined, any cause in no row is a server error
abbrev pub status_of : ℕ → ℕ → ℕ
status_of cause location = if cause == call_rejected && location == user then decline else second_of cause_rows cause server_internal_error

-- where a cause comes from that stands for a status: the user for 600 to 699, else the private network that serves the remote user
abbrev pub location_of : ℕ → ℕ
location_of status = if within 600 699 status then user else remote_private_network

-- the cause value and the location for a status; a status in no row is normal, unspecified
abbrev pub cause_of : ℕ → ℕ × ℕ
cause_of status = (second_of status_rows status normal_unspecified, location_of status)

-- a clearing message without a cause counts as normal, unspecified
abbrev pub counted_cause : Option ℕ → ℕ
counted_cause None = normal_unspecified
counted_cause (Some cause) = cause

-- The causes, locations and statuses that the rules name, each said once, as Q.850 and RFC 3261 call them.
use Rattle.std.specs.Prelude.{ℕ}

-- ---------------------------------------------------------------- cause values
abbrev pub normal_clearing : ℕ
normal_clearing = 16

abbrev pub call_rejected : ℕ
call_rejected = 21

abbrev pub invalid_number_format : ℕ
invalid_number_format = 28

abbrev pub normal_unspecified : ℕ
normal_unspecified = 31

abbrev pub no_channel_available : ℕ
no_channel_available = 34

abbrev pub switching_equipment_congestion : ℕ
switching_equipment_congestion = 42

abbrev pub channel_unavailable : ℕ
channel_unavailable = 44

abbrev pub invalid_call_reference : ℕ
invalid_call_reference = 81

abbrev pub recovery_on_timer_expiry : ℕ
recovery_on_timer_expiry = 102

-- ---------------------------------------------------------------- locations
abbrev pub user : ℕ
user = 0

-- the private network that serves the remote user
abbrev pub remote_private_network : ℕ
remote_private_network = 5

-- ---------------------------------------------------------------- statuses
-- responses have statuses from the first to the last; final ones begin at 200, those that refuse at 300
abbrev pub first_status : ℕ
first_status = 100

abbrev pub first_final : ℕ
first_final = 200

abbrev pub first_failure : ℕ
first_failure = 300

abbrev pub last_status : ℕ
last_status = 699

abbrev pub ringing : ℕ
ringing = 180

abbrev pub session_progress : ℕ
session_progress = 183

abbrev pub ok : ℕ
ok = 200

abbrev pub not_found : ℕ
not_found = 404

abbrev pub request_timeout : ℕ
request_timeout = 408

abbrev pub temporarily_unavailable : ℕ
temporarily_unavailable = 480

abbrev pub address_incomplete : ℕ
address_incomplete = 484

abbrev pub request_terminated : ℕ
request_terminated = 487

abbrev pub server_internal_error : ℕ
server_internal_error = 500

abbrev pub service_unavailable : ℕ
service_unavailable = 503

abbrev pub decline : ℕ
decline = 603

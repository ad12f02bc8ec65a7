-- What is answered to the head of a request.
use Rattle.std.specs.Prelude.{ℕ, List, [], ◌∷◌, ◌++◌, length, bytes_eq, codes, decimal, if◌then◌else◌, Option, Some, None, unwrap_or}
use Rattle.page_files.specs.Heads.{asks_get, asks_socket, path_in}
use Rattle.page_files.specs.declared.form.Form.{Form}
use Rattle.page_files.specs.declared.form.Form.TheVariants as form
use Rattle.page_files.specs.declared.page.Page.{Page}

-- what a browser may do with a file: run and show what came from here, and connect to here
abbrev pub policy : List ℕ
policy = codes "default-src 'none'; script-src 'self' 'wasm-unsafe-eval'; style-src 'self'; img-src 'self'; connect-src 'self'; base-uri 'none'; form-action 'none'; frame-ancestors 'none'"

-- how long a browser keeps a file: it asks anew at each visit, or keeps it for a year, and unpacks it where it is packed
abbrev pub keeping : Form → List ℕ
keeping form.Visited = codes "no-cache"
keeping form.Kept = codes "public, max-age=31536000, immutable"
keeping form.Packed = codes "public, max-age=31536000, immutable\r\nContent-Encoding: gzip"

abbrev pub up_to_keeping : List ℕ
up_to_keeping = codes "HTTP/1.1 200 OK\r\nConnection: close\r\nCache-Control: "

abbrev pub up_to_policy : List ℕ
up_to_policy = codes "\r\nX-Content-Type-Options: nosniff\r\nReferrer-Policy: no-referrer\r\nContent-Security-Policy: "

-- the lines of an answer up to its kind
abbrev pub first_lines : Form → List ℕ
first_lines form = (((up_to_keeping ++ keeping form) ++ up_to_policy) ++ policy) ++ codes "\r\nContent-Type: "

abbrev pub up_to_length : Form → List ℕ → List ℕ
up_to_length form kind = (first_lines form ++ kind) ++ codes "\r\nContent-Length: "

-- the whole answer with a file of a form and a kind
abbrev pub response : Form → List ℕ → List ℕ → List ℕ
response form kind body = ((up_to_length form kind ++ decimal (length body)) ++ codes "\r\n\r\n") ++ body

abbrev pub not_found : List ℕ
not_found = codes "HTTP/1.1 404 Not Found\r\nConnection: close\r\nContent-Type: text/plain\r\nContent-Length: 10\r\n\r\nNot found\n"

abbrev pub not_allowed : List ℕ
not_allowed = codes "HTTP/1.1 405 Method Not Allowed\r\nAllow: GET\r\nConnection: close\r\nContent-Type: text/plain\r\nContent-Length: 12\r\n\r\nNot allowed\n"

-- the answer with the file at a path; none where no file is there
abbrev pub answer_at : List Page → List ℕ → Option (List ℕ)
answer_at [] path = None
answer_at (page ∷ pages) path = if bytes_eq page.path.items path then Some page.answer.items else answer_at pages path

-- a GET is answered with the file at its path, or that there is none; every other method isn't allowed
abbrev pub plain_answer : List Page → List ℕ → List ℕ
plain_answer pages head = if asks_get head then unwrap_or (answer_at pages (path_in head)) not_found else not_allowed

-- what is answered to a head; nothing to one that asks for a WebSocket
abbrev pub answer_to : List Page → List ℕ → Option (List ℕ)
answer_to pages head = if asks_socket head then None else Some (plain_answer pages head)

mod PowerFailures
